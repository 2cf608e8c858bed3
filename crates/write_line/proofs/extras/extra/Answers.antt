-- `write_line::extras::extra` meets its contract. Assumes nothing.
use mathlib.Core.Path.{refl}
use native.Mathlib.Omega.{arith}
use borrow.Author.Tests.{ltb-true, ltb-false}
use Rattle.write_line.proofs.extras.extra.Goals.{then-out-place-via-then-out-place, then-out-place-via-else-out-place+then-out-place-2}
use Rattle.rules_trips.proofs.Extras.{extra_good}
use Rattle.write_ending.proofs.Laws.{bad, short, done}
use Rattle.write_line.proofs.Laws.{extra_length}
use Rattle.write_line.proofs.extras.extra.Goals as goal

pub returns-then-not-good_extra : goal.returns-then-not-good_extra
returns-then-not-good_extra c = bad _ _ _ _ _ _ _ (extra_good _ _ _ _) c.good_extra.ensures _ c.if-not-good_extra.true-raw c.refused.ensures refl

pub returns-then-out-place : goal.returns-then-out-place
returns-then-out-place c =
    elim c.then-out-place.branch [ then-out-place-via-then-out-place w ↦ short _ _ _ _ _ _ _ (extra_good _ _ _ _) c.good_extra.ensures c.if-not-good_extra.false-raw _ (extra_length _ _ _) _ (omega arith) c.refused-then-out-place.ensures refl | then-out-place-via-else-out-place+then-out-place-2 w ↦ short _ _ _ _ _ _ _ (extra_good _ _ _ _) c.good_extra.ensures c.if-not-good_extra.false-raw _ (extra_length _ _ _) _ (omega (arith, ltb-true)) c.refused-then-out-place.ensures refl ]

pub returns : goal.returns
returns c =
    done _ _ _ _ _ _ _ (extra_good _ _ _ _) c.good_extra.ensures c.if-not-good_extra.false-raw _ (extra_length _ _ _) _ (omega (arith, ltb-false)) refl c.fill_extra.ensures

pub overflow_add-result : goal.overflow_add-result
overflow_add-result c = omega (arith, ltb-false)
