-- `text_calendar::behind` meets its contract. Assumes nothing.
use borrow.Author.Rules.{rules}
use Rattle.text_calendar.proofs.Laws.{year_same, month_next, year_next, month_first}
use Rattle.text_calendar.proofs.behind.Goals as goal

pub returns-then-c-lt12 : goal.returns-then-c-lt12
returns-then-c-lt12 c = search (year_same, month_next, rules)

pub returns : goal.returns
returns c = search (year_next, month_first, rules)
