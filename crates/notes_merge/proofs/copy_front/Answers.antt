-- `notes_merge::copy_front` meets its contract: one byte after the other is put. Assumes nothing.
use Prim.Native.Nat.{◌-◌}
use native.Mathlib.Omega.{arith}
use borrow.Author.Rules.{rules}
use Rattle.notes_merge.proofs.Merging.{Copying, copying_first, copying_size, copying_next, copying_end}
use Rattle.notes_merge.proofs.copy_front.Goals as goal

pub loop-i-init : goal.loop-i-init
loop-i-init c = copying_first _ _ _

pub bounds-out-i : goal.bounds-out-i
bounds-out-i c = let s = copying_size _ _ _ _ _ c.loop-i.invariant in omega (arith, s, c.requires.1)

pub loop-i-preserved : goal.loop-i-preserved
loop-i-preserved c = copying_next _ _ _ _ _ c.loop-i.invariant (search rules) (search rules)

pub shape_of-out : goal.shape_of-out
shape_of-out c = copying_size _ _ _ _ _ c.loop-i.invariant

pub returns : goal.returns
returns c = copying_end _ _ _ _ _ c.loop-i.invariant (search rules)
