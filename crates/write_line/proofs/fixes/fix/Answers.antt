-- `write_line::fixes::fix` meets its contract. Assumes nothing.
use mathlib.Core.Path.{refl}
use native.Mathlib.Omega.{arith}
use borrow.Author.Tests.{ltb-true, ltb-false}
use Rattle.write_line.proofs.fixes.fix.Goals.{then-out-place-via-then-out-place, then-out-place-via-else-out-place+then-out-place-2}
use Rattle.rules.specs.Writes.{fix_text}
use Rattle.rules_trips.proofs.Fixes.{fix_good}
use Rattle.write_ending.proofs.Laws.{bad, short, done}
use Rattle.write_line.proofs.Laws.{fix_length}
use Rattle.write_line.proofs.fixes.fix.Goals as goal

pub returns-then-not-good_fix : goal.returns-then-not-good_fix
returns-then-not-good_fix c = bad _ _ _ _ _ _ _ (fix_good _ _ _) c.good_fix.ensures _ c.if-not-good_fix.true-raw c.refused.ensures refl

pub returns-then-out-place : goal.returns-then-out-place
returns-then-out-place c =
    elim c.then-out-place.branch [ then-out-place-via-then-out-place w ↦ short _ _ _ _ _ _ _ (fix_good _ _ _) c.good_fix.ensures c.if-not-good_fix.false-raw _ (fix_length _ _) _ (omega arith) c.refused-then-out-place.ensures refl | then-out-place-via-else-out-place+then-out-place-2 w ↦ short _ _ _ _ _ _ _ (fix_good _ _ _) c.good_fix.ensures c.if-not-good_fix.false-raw _ (fix_length _ _) _ (omega (arith, ltb-true)) c.refused-then-out-place.ensures refl ]

pub returns : goal.returns
unfolding fix_text
returns c =
    let filled = rw c.fields_of.ensures at c.fill_fix.ensures in
    done _ _ _ _ _ _ _ (fix_good _ _ _) c.good_fix.ensures c.if-not-good_fix.false-raw _ (fix_length _ _) _ (omega (arith, ltb-false)) refl filled

pub overflow_add-result : goal.overflow_add-result
overflow_add-result c = omega (arith, ltb-false)
