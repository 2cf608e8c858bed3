-- `check_clock::after_time` meets its contract: where there is room, the count of lines has room for one more. Assumes nothing.
use mathlib.Core.Path.{sym}
use native.Mathlib.Omega.{arith}
use Rattle.check_clock.proofs.Moving.{room}
use Rattle.check_clock.proofs.after_time.Goals as goal

pub overflow_add-result : goal.overflow_add-result
overflow_add-result c = omega (arith, (room _ (sym c.if-not-has_room.ensures)).lines)
