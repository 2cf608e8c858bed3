-- `track_course::set_out` meets its contract. Assumes nothing.
use Rattle.track_course.proofs.set_out.Goals as goal

pub returns : goal.returns
returns c = rw c.finer_of.ensures
