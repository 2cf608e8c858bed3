-- `text_calendar::walk` meets its contract: what is left to walk from here leads to the date. Assumes nothing.
use Prim.Native.Nat.{◌+◌, ◌≤◌}
use mathlib.Core.Path.{◌≡◌, refl, sym, ◌∙◌}
use native.Mathlib.Omega.{arith}
use borrow.Author.Rules.{rules}
use Rattle.rules.specs.Fields.{days_of}
use Rattle.rules_trips.proofs.Dates.{days_most}
use Rattle.text_calendar.specs.Calendar.{opening, days_after}
use Rattle.text_calendar.proofs.Laws.{year_long, month_long, year_turn, month_turn, days_left, behind_least, behind_most, behind_early}
use Rattle.text_calendar.proofs.walk.Goals as goal

pub loop-left-init : goal.loop-left-init
loop-left-init c = (omega arith, refl)

pub year_from-left-requires : goal.year_from-left-requires
year_from-left-requires c = search rules

pub overflow_sub-left : goal.overflow_sub-left
overflow_sub-left c = omega (arith, year_long _ _ _ c.year_from-left.ensures)

pub overflow_add-y : goal.overflow_add-y
overflow_add-y c = search rules

pub loop-left-smaller : goal.loop-left-smaller
loop-left-smaller c = omega (arith, year_long _ _ _ c.year_from-left.ensures)

pub loop-left-preserved : goal.loop-left-preserved
loop-left-preserved c =
    let k = year_long _ _ _ c.year_from-left.ensures in
    let p = c.requires in
    (omega arith, year_turn _ _ _ _ p.least p.most (omega arith) c.year_from-left.ensures ∙ c.loop-left.invariant.1)

pub loop-length-init : goal.loop-length-init
loop-length-init c = (c.requires.least, c.requires.most, c.loop-left.invariant.0, c.length_of-length.ensures, c.loop-left.invariant.1)

pub behind-at-requires : goal.behind-at-requires
behind-at-requires c = omega arith

pub loop-length-smaller : goal.loop-length-smaller
loop-length-smaller c =
    let l = c.loop-length in
    let v = l.invariant in
    omega (arith, month_long l.at.year l.at.month v.0 v.1, v.3, c.loop-length-test.true)

pub loop-length-preserved : goal.loop-length-preserved
loop-length-preserved c =
    let v = c.loop-length.invariant in
    let b = c.behind-at.ensures in
    let t = c.loop-length-test.true in
    let y = c.loop-length.at.year in
    let m = c.loop-length.at.month in
    (rw b.1 (behind_least m), rw b.1 (behind_most m), omega (arith, month_long y m v.0 v.1, v.2, v.3, b.0, behind_early y m), c.length_of-length-in-loop-length.ensures, month_turn _ _ _ _ v.0 v.1 t _ _ v.3 b.0 b.1 ∙ v.4)

pub overflow_cast-result : goal.overflow_cast-result
overflow_cast-result c =
    let l = c.loop-length in
    let v = l.invariant in
    record { fits = omega (arith, days_most l.at.year l.at.month, v.3, c.loop-length-test.false) }

pub returns : goal.returns
returns c = let v = c.loop-length.invariant in days_left _ _ _ _ v.3 c.loop-length-test.false ∙ v.4
