-- `text_calendar::year_from` meets its contract. Assumes nothing.
use borrow.Author.Rules.{rules}
use native.Mathlib.Omega.{arith}
use Rattle.text_calendar.proofs.Laws.{february_small, year_early, year_late}
use Rattle.text_calendar.proofs.year_from.Goals as goal

pub overflow_add-result : goal.overflow_add-result
overflow_add-result c = omega (arith, february_small _ _ c.length_of.ensures)

pub returns-then-month-le2 : goal.returns-then-month-le2
returns-then-month-le2 c = search (year_early, rules)

pub overflow_add-result-2 : goal.overflow_add-result-2
overflow_add-result-2 c = omega (arith, february_small _ _ c.length_of-2.ensures)

pub returns : goal.returns
returns c = search (year_late, rules)
