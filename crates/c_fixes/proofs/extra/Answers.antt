-- `extra` meets its contract. Assumes nothing.
use borrow.Author.Rules.{rules}
use Rattle.c_fixes.proofs.Laws.{extra_no_answer, extra_no_entries, extra_answered}
use Rattle.c_fixes.proofs.extra.Goals as goal

pub returns-then-answer-ne-SIZE : goal.returns-then-answer-ne-SIZE
returns-then-answer-ne-SIZE c = extra_no_answer _ _ _ _ c.if-answer-ne-SIZE.true

pub returns-then-entries-ne-ENTRIES : goal.returns-then-entries-ne-ENTRIES
returns-then-entries-ne-ENTRIES c = extra_no_entries _ _ _ _ c.if-answer-ne-SIZE.false c.if-entries-ne-ENTRIES.true

pub returns : goal.returns
returns c =
    extra_answered _ _ _ _ _ _ _ _ _ c.if-answer-ne-SIZE.false c.if-entries-ne-ENTRIES.false c.extra-read.ensures _ c.time_in.ensures c.time.ensures _ c.columns_of_extra.ensures c.put.ensures c.give.ensures
