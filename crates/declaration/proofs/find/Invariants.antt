-- `declaration::find` meets its contract: what is left to be looked at from each line on decides. Assumes nothing.
use Prim.Native.Nat.{◌-◌}
use native.Mathlib.Omega.{arith}
use borrow.Author.Rules.{rules}
use lib.ListN.{length}
use Rattle.declaration.proofs.Starting.{Seeking, seeking_first, seeking_last, seeking_broken, seeking_cut, seeking_found, seeking_next}
use Rattle.declaration.proofs.find.Given as goal

abbrev pub invariant-loop-at : goal.invariant-loop-at
invariant-loop-at l = Seeking l.file l.lines l.at

abbrev pub decreases-loop-at : goal.decreases-loop-at
decreases-loop-at l = length l.file - l.at
