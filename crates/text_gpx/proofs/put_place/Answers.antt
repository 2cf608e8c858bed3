-- `text_gpx::put_place` meets its contract. Assumes nothing.
use borrow.Author.Rules.{rules}
use Rattle.text_pieces.proofs.Laws.{then}
use Rattle.rules.specs.Choice.{bytes}
use Rattle.text_gpx.specs.Points.{place_shown}
use Rattle.text_gpx.proofs.put_place.Goals as goal

pub returns : goal.returns
unfolding place_shown bytes
returns c =
    then c.put_text-a.ensures (then c.put_degrees_behind-b.ensures (then c.put_text-c.ensures c.put_degrees_behind.ensures))
