-- `text_gpx::put_shut` meets its contract. Assumes nothing.
use borrow.Author.Rules.{rules}
use Rattle.rules.specs.Choice.{bytes}
use Rattle.text_gpx.specs.Points.{shut_shown}
use Rattle.text_gpx.proofs.put_shut.Goals as goal

pub returns : goal.returns
unfolding shut_shown bytes
returns c = search rules
