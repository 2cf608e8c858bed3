-- `fix` meets its contract. Assumes nothing.
use borrow.Author.Rules.{rules}
use Rattle.c_fixes.proofs.Laws.{fix_no_answer, fix_no_heights, fix_no_entries, fix_answered}
use Rattle.c_fixes.proofs.fix.Goals as goal

pub returns-then-answer-ne-SIZE : goal.returns-then-answer-ne-SIZE
returns-then-answer-ne-SIZE c = fix_no_answer _ _ _ _ _ c.if-answer-ne-SIZE.true

pub returns-then-heights-ne2 : goal.returns-then-heights-ne2
returns-then-heights-ne2 c = fix_no_heights _ _ _ _ _ c.if-answer-ne-SIZE.false c.if-heights-ne2.true

pub returns-then-entries-ne-ENTRIES : goal.returns-then-entries-ne-ENTRIES
returns-then-entries-ne-ENTRIES c = fix_no_entries _ _ _ _ _ c.if-answer-ne-SIZE.false c.if-heights-ne2.false c.if-entries-ne-ENTRIES.true

pub returns : goal.returns
returns c =
    fix_answered _ _ _ _ _ _ _ _ _ _ _ c.if-answer-ne-SIZE.false c.if-heights-ne2.false c.if-entries-ne-ENTRIES.false c.fix-read.ensures _ c.fix_in-value.ensures c.numbers.ensures c.put_heights.ensures _ c.columns_of_fix.ensures c.put.ensures c.give.ensures
