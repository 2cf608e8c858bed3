-- `check_front::is_between` meets its contract: what was found so far and what is left decide as the whole does. Assumes nothing.
use native.Mathlib.Omega.{arith}
use borrow.Author.Rules.{rules}
use Rattle.check_front.proofs.Laws.{between_step, between_end}
use Rattle.check_front.proofs.is_between.Goals as goal

pub loop-i-preserved : goal.loop-i-preserved
loop-i-preserved c =
    let l = c.loop-i in
    let pre = c.requires in
    between_step _ _ _ 3 l.i l.ok _ l.invariant _ (omega (arith, pre.0)) (omega (arith, pre.1)) (search rules) c.still-ok.ensures

pub returns : goal.returns
returns c = between_end _ _ _ 3 c.loop-i.i _ _ c.loop-i.invariant (omega (arith, c.requires.0))
