-- `check_ahead::pace::take_line` meets its contract: a line of another letter is taken as such. Assumes nothing.
use Rattle.check_ahead.proofs.pace.take_line.Goals as goal

pub returns-in_default : goal.returns-in_default
returns-in_default c = λ st g b k n. c.take_other.ensures st g
