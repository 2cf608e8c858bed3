-- `kinds::mark` meets its contract: the bytes marked from each place on give the whole list. Assumes nothing.
use Prim.Native.Nat.{◌-◌}
use mathlib.Core.Path.{◌≡◌, refl, sym, ◌∙◌}
use native.Mathlib.Omega.{arith}
use borrow.Author.Rules.{rules}
use lib.ListN.{length}
use Rattle.kinds.proofs.Marking.{marked_in, marking_last, marking_turn}
use Rattle.kinds.proofs.mark.Given as goal

abbrev pub invariant-loop-i : goal.invariant-loop-i
invariant-loop-i l = (length l.list ≡ length l.initial.list) × (marked_in l.list l.i l.to ≡ marked_in l.initial.list l.from l.to)
