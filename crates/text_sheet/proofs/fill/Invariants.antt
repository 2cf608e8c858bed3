-- `text_sheet::fill` meets its contract: at each turn the lines of the fixes so far stand in the block, and the reading has come so far. Assumes nothing.
use Prim.Native.Nat.{◌-◌, ◌≤◌}
use borrow.Author.Rules.{rules}
use Rattle.text_sheet.proofs.Laws.{few_within, Reached, reached_first, reached_next, sheet_full}
use Rattle.text_sheet.proofs.fill.Given as goal

abbrev pub invariant-loop-i : goal.invariant-loop-i
invariant-loop-i l = (l.i ≤ l.n) × Reached l.file l.initial.next l.initial.block l.i l.used l.next l.block

abbrev pub decreases-loop-i : goal.decreases-loop-i
decreases-loop-i l = l.n - l.i
