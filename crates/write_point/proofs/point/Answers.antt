-- `write_point::point` meets its contract. Assumes nothing.
use mathlib.Core.Logic.{⊎_elim}
use mathlib.Core.Path.{refl}
use native.Mathlib.Omega.{arith}
use borrow.Author.Rules.{rules}
use borrow.Author.Tests.{ltb-true, ltb-false}
use Rattle.write_point.proofs.point.Goals.{then-out-place-via-then-out-place, then-out-place-via-else-out-place+then-out-place-2}
use Rattle.rules_trips.proofs.Points.{point_good}
use Rattle.write_ending.proofs.Laws.{bad, short, done}
use Rattle.write_point.proofs.Laws.{point_length}
use Rattle.write_point.proofs.point.Goals as goal

pub returns-then-not-good_point : goal.returns-then-not-good_point
returns-then-not-good_point c = bad _ _ _ _ _ _ _ (point_good _ _) c.good_point.ensures _ c.if-not-good_point.true-raw c.refused.ensures refl

pub returns-then-out-place : goal.returns-then-out-place
returns-then-out-place c =
    elim c.then-out-place.branch [ then-out-place-via-then-out-place w ↦ short _ _ _ _ _ _ _ (point_good _ _) c.good_point.ensures c.if-not-good_point.false-raw _ (point_length _ _) _ (omega arith) c.refused-then-out-place.ensures refl | then-out-place-via-else-out-place+then-out-place-2 w ↦ short _ _ _ _ _ _ _ (point_good _ _) c.good_point.ensures c.if-not-good_point.false-raw _ (point_length _ _) _ (omega (arith, ltb-true)) c.refused-then-out-place.ensures refl ]

pub returns : goal.returns
returns c =
    done _ _ _ _ _ _ _ (point_good _ _) c.good_point.ensures c.if-not-good_point.false-raw _ (point_length _ _) _ (omega (arith, ltb-false)) refl c.fill_point.ensures

pub overflow_add-result : goal.overflow_add-result
overflow_add-result c = omega (arith, ltb-false)
