-- `text_calendar::next_day` meets its contract. Assumes nothing.
use native.Mathlib.Omega.{arith}
use borrow.Author.Rules.{rules}
use Rattle.text_calendar.proofs.Laws.{day_small, day_on, day_over}
use Rattle.text_calendar.proofs.next_day.Goals as goal

pub overflow_add-result : goal.overflow_add-result
overflow_add-result c = record { fits = omega (arith, day_small _ _ c.length_of.ensures c.if-d-length_of.true) }

pub returns-then-d-length_of : goal.returns-then-d-length_of
returns-then-d-length_of c = search (day_on, rules)

pub returns : goal.returns
returns c = search (day_over, rules)
