-- `text_calendar::date_after` meets its contract. Assumes nothing.
use mathlib.Core.Path.{◌≡◌, refl, sym, ◌∙◌}
use native.Mathlib.Omega.{arith}
use borrow.Author.Rules.{rules}
use Rattle.text_calendar.specs.Calendar.{days_after}
use Rattle.text_calendar.proofs.Laws.{none_later, told_exists, next_year, after_next, eras_on}
use Rattle.text_calendar.proofs.date_after.Goals as goal

pub returns-then-days-eq0 : goal.returns-then-days-eq0
returns-then-days-eq0 c = none_later _ _ c.if-days-eq0.true

pub overflow_sub-left : goal.overflow_sub-left
overflow_sub-left c = (told_exists _ _ c.next_day-c.ensures).day_least

pub overflow_add-c : goal.overflow_add-c
overflow_add-c c = record { fits = omega (arith, next_year _ _ c.next_day-c.ensures) }

pub walk-requires : goal.walk-requires
walk-requires c =
    let e = c.next_day-c.ensures in
    let x = told_exists _ _ e in
    record { least = x.month_least; most = x.month_most; early = omega (arith, next_year _ _ e); few = omega arith }

pub returns : goal.returns
returns c =
    let e = c.next_day-c.ensures in
    let x = told_exists _ _ e in
    c.walk.ensures ∙ eras_on _ _ _ x.month_least x.month_most ∙ after_next _ _ _ e (search rules)
