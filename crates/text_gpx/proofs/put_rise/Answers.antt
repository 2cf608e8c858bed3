-- `text_gpx::put_rise` meets its contract. Assumes nothing.
use borrow.Author.Rules.{rules}
use Rattle.text_pieces.proofs.Laws.{then}
use Rattle.rules.specs.Choice.{bytes}
use Rattle.text_gpx.specs.Points.{rise_shown}
use Rattle.text_gpx.proofs.put_rise.Goals as goal

pub returns : goal.returns
unfolding rise_shown bytes
returns c =
    then c.put_text-a.ensures (then c.put_height-b.ensures (then c.put_text-c.ensures (then c.put_instant-d.ensures c.put_text.ensures)))
