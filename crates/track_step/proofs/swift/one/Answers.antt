-- `track_step::swift::one` meets its contract: the digit that is known to stand there. Assumes nothing.
use native.Mathlib.Omega.{arith}
use Rattle.byte_number.proofs.Laws.{digit_low, digit_high}
use Rattle.track_step.proofs.Digits.{one_there, one_digit, one_is}
use Rattle.track_step.proofs.swift.one.Goals as goal

pub bounds-s-at : goal.bounds-s-at
bounds-s-at c = omega (arith, one_there _ _ c.requires)

pub overflow_cast-result : goal.overflow_cast-result
overflow_cast-result c = omega (arith, digit_high _ (one_digit _ _ c.requires))

pub overflow_sub-result : goal.overflow_sub-result
overflow_sub-result c = digit_low _ (one_digit _ _ c.requires)

pub returns : goal.returns
returns c = one_is _ _ c.requires
