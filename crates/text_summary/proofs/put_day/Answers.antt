-- `text_summary::put_day` meets its contract. Assumes nothing.
use borrow.Author.Rules.{rules}
use Rattle.text_pieces.proofs.Laws.{pieces}
use Rattle.text_summary.proofs.Laws.{no_day, some_day}
use Rattle.text_summary.proofs.put_day.Goals as goal

pub returns-then-day-eq0 : goal.returns-then-day-eq0
returns-then-day-eq0 c = search (no_day, rules)

pub returns : goal.returns
returns c = search (some_day, pieces, rules) depth 16
