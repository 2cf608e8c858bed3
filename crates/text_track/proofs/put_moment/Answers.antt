-- `text_track::put_moment` meets its contract. Assumes nothing.
use Rattle.text_pieces.proofs.Laws.{pieces}
use Rattle.text_track.specs.Trail.{moment_shown}
use Rattle.text_track.proofs.put_moment.Goals as goal

pub returns : goal.returns
unfolding moment_shown
returns c = search pieces depth 16
