-- `field_position::position_at` meets its contract: the count is no number that wraps. Assumes nothing.
use Rattle.byte_number.proofs.Laws.{count_fits}
use Rattle.field_position.proofs.position_at.Goals as goal

pub overflow_add-count : goal.overflow_add-count
overflow_add-count c = search (count_fits, c.in-Some.is)
