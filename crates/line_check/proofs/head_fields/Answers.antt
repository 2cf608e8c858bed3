-- `line_check::head_fields` meets its contract: each way out is a way through `head_fields`. Assumes nothing.
use native.Mathlib.Omega.{arith}
use Rattle.byte_number.proofs.Laws.{number_below, told}
use Rattle.line_check.proofs.head_fields.Goals as goal

pub overflow_cast-result : goal.overflow_cast-result
overflow_cast-result c = omega (arith, number_below _ _ 4 _ (told _ _ _ _ _ c.digits.ensures c.in-Some-digits.is))

pub overflow_cast-result-2 : goal.overflow_cast-result-2
overflow_cast-result-2 c = omega (arith, number_below _ _ 2 _ (told _ _ _ _ _ c.digits-2.ensures c.in-Some-digits-2.is))
