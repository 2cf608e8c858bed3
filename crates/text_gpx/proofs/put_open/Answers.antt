-- `text_gpx::put_open` meets its contract. Assumes nothing.
use borrow.Author.Rules.{rules}
use Rattle.rules.specs.Choice.{bytes}
use Rattle.text_gpx.specs.Points.{open_shown}
use Rattle.text_gpx.proofs.put_open.Goals as goal

pub returns : goal.returns
unfolding open_shown bytes
returns c = search rules
