-- `text_sheet::fill` meets its contract: at each turn the lines of the fixes so far stand in the block, and the reading has come so far. Assumes nothing.
use Prim.Native.Nat.{◌-◌, ◌≤◌}
use borrow.Author.Rules.{rules}
use Rattle.text_sheet.proofs.Laws.{few_within, Reached, reached_first, reached_next, sheet_full}
use Rattle.text_sheet.proofs.fill.Goals as goal

pub loop-i-preserved : goal.loop-i-preserved
loop-i-preserved c =
    (search rules, reached_next _ _ _ _ _ _ _ _ _ _ c.loop-i.invariant.1 c.step-s.ensures c.put_line-used.ensures)

pub returns : goal.returns
returns c = sheet_full _ _ _ _ _ _ _ _ _ c.few-n.ensures c.loop-i.invariant.0 c.loop-i-test.false c.loop-i.invariant.1

pub loop-i-init : goal.loop-i-init
loop-i-init c = search (reached_first, rules)

pub overflow_sub-result : goal.overflow_sub-result
overflow_sub-result c = search (few_within, rules)
