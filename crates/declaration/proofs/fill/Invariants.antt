-- `declaration::fill` meets its contract: the points from each line on give the whole list. Assumes nothing.
use Prim.Native.Nat.{◌-◌, ◌*◌, ◌<◌}
use native.Mathlib.Omega.{arith}
use borrow.Author.Rules.{rules}
use lib.ListN.{length}
use Rattle.declaration.proofs.Pointing.{Filling, filling_first, filling_last, filling_broken, filling_cut, filling_next}
use Rattle.declaration.proofs.fill.Given as goal

abbrev pub invariant-loop-i : goal.invariant-loop-i
invariant-loop-i l = Filling l.file l.from l.n l.initial.list l.list l.at l.i
