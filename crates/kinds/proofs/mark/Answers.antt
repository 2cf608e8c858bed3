-- `kinds::mark` meets its contract: the bytes marked from each place on give the whole list. Assumes nothing.
use Prim.Native.Nat.{◌-◌}
use mathlib.Core.Path.{◌≡◌, refl, sym, ◌∙◌}
use native.Mathlib.Omega.{arith}
use borrow.Author.Rules.{rules}
use lib.ListN.{length}
use Rattle.kinds.proofs.Marking.{marked_in, marking_last, marking_turn}
use Rattle.kinds.proofs.mark.Goals as goal

pub loop-i-preserved : goal.loop-i-preserved
loop-i-preserved c =
    marking_turn c.loop-i.list c.loop-i.i c.args.to c.args.list.now _ _ (omega arith) c.requires c.loop-i.invariant c.mark_of.ensures

pub returns : goal.returns
returns c = sym (marking_last c.loop-i.list c.loop-i.i c.args.to (omega arith)) ∙ c.loop-i.invariant.1

pub loop-i-init : goal.loop-i-init
loop-i-init c = (refl, refl)

pub shape_of-list : goal.shape_of-list
shape_of-list c = c.loop-i.invariant.0
