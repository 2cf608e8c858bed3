-- `track_step::swift::two` meets its contract: one and one joined. Assumes nothing.
use native.Mathlib.Omega.{arith}
use borrow.Author.Rules.{rules}
use Rattle.track_step.proofs.Digits.{first_known, last_known, both_known, behind_fits, small}
use Rattle.track_step.proofs.swift.two.Goals as goal

pub one-requires : goal.one-requires
one-requires c = first_known _ _ 1 (omega arith) c.requires

pub overflow_mul-result : goal.overflow_mul-result
overflow_mul-result c = omega (arith, small _ _ 1 _ (omega arith) c.one.ensures)

pub overflow_add-at : goal.overflow_add-at
overflow_add-at c = behind_fits _ _ 2 1 (omega arith) (omega arith) c.requires (search rules)

pub one-requires-2 : goal.one-requires-2
one-requires-2 c = last_known _ _ 1 (omega arith) c.requires

pub overflow_add-result : goal.overflow_add-result
overflow_add-result c = omega (arith, small _ _ 1 _ (omega arith) c.one.ensures, small _ _ 1 _ (omega arith) c.one-2.ensures)

pub returns : goal.returns
returns c = both_known _ _ 1 (omega arith) _ _ c.one.ensures c.one-2.ensures
