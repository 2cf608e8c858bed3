-- `text_stretch::put_fixes` meets its contract: at each turn the lines of the fixes so far stand in the buffer, and the reading has come so far. Assumes nothing.
use Prim.Native.Nat.{◌-◌, ◌≤◌}
use borrow.Author.Rules.{rules}
use Rattle.text_stretch.proofs.Laws.{Reached, reached_first, reached_next, stretch_full}
use Rattle.text_stretch.proofs.put_fixes.Given as goal

abbrev pub invariant-loop-i : goal.invariant-loop-i
invariant-loop-i l = (l.i ≤ l.n) × Reached l.form l.file l.initial.next l.initial.out l.at l.i l.used l.next l.out

abbrev pub decreases-loop-i : goal.decreases-loop-i
decreases-loop-i l = l.n - l.i
