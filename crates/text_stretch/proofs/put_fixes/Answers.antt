-- `text_stretch::put_fixes` meets its contract: at each turn the lines of the fixes so far stand in the buffer, and the reading has come so far. Assumes nothing.
use Prim.Native.Nat.{◌-◌, ◌≤◌}
use borrow.Author.Rules.{rules}
use Rattle.text_stretch.proofs.Laws.{Reached, reached_first, reached_next, stretch_full}
use Rattle.text_stretch.proofs.put_fixes.Goals as goal

pub loop-i-preserved : goal.loop-i-preserved
loop-i-preserved c =
    (search rules, reached_next _ _ _ _ _ _ _ _ _ _ _ _ c.loop-i.invariant.1 c.step-s.ensures c.put_line-used.ensures)

pub returns : goal.returns
returns c = stretch_full _ _ _ _ _ _ _ _ _ _ c.loop-i.invariant.0 c.loop-i-test.false c.loop-i.invariant.1

pub loop-i-init : goal.loop-i-init
loop-i-init c = search (reached_first, rules)
