-- `text_track::put_record` meets its contract. Assumes nothing.
use Rattle.text_pieces.proofs.Laws.{then}
use Rattle.text_listing.specs.Lines.{heights_line}
use Rattle.text_track.specs.Trail.{heights_shown, record_shown}
use Rattle.text_track.proofs.put_record.Goals as goal

pub returns : goal.returns
unfolding record_shown heights_shown heights_line
returns c =
    then c.put_moment-a.ensures (then c.put_degrees-b.ensures (then c.put_degrees-c.ensures c.put_heights.ensures))
