-- `track_step::swift::three` meets its contract: two and one joined. Assumes nothing.
use native.Mathlib.Omega.{arith}
use borrow.Author.Rules.{rules}
use Rattle.track_step.proofs.Digits.{first_known, last_known, both_known, behind_fits, small}
use Rattle.track_step.proofs.swift.three.Goals as goal

pub two-requires : goal.two-requires
two-requires c = first_known _ _ 2 (omega arith) c.requires

pub overflow_mul-result : goal.overflow_mul-result
overflow_mul-result c = omega (arith, small _ _ 2 _ (omega arith) c.two.ensures)

pub overflow_add-at : goal.overflow_add-at
overflow_add-at c = behind_fits _ _ 3 2 (omega arith) (omega arith) c.requires (search rules)

pub one-requires : goal.one-requires
one-requires c = last_known _ _ 2 (omega arith) c.requires

pub overflow_add-result : goal.overflow_add-result
overflow_add-result c = omega (arith, small _ _ 2 _ (omega arith) c.two.ensures, small _ _ 1 _ (omega arith) c.one.ensures)

pub returns : goal.returns
returns c = both_known _ _ 2 (omega arith) _ _ c.two.ensures c.one.ensures
