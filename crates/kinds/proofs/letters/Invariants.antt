-- `kinds::letters` meets its contract: the letters from each line on give the whole list, and the G lines from there on decide where the notes begin. Assumes nothing.
use Prim.Native.Nat.{◌-◌}
use native.Mathlib.Omega.{arith}
use borrow.Author.Rules.{rules}
use lib.ListN.{length}
use Rattle.file_lines.proofs.Cuts as cuts
use Rattle.kinds.proofs.Putting.{Putting, putting_first, ended_so, put_fits, putting_either, letters_unsealed, letters_sealed}
use Rattle.kinds.proofs.letters.Given as goal

abbrev pub invariant-loop-at : goal.invariant-loop-at
invariant-loop-at l = Putting l.file l.sizes l.initial.list l.list l.at l.put l.last

abbrev pub decreases-loop-at : goal.decreases-loop-at
decreases-loop-at l = length l.file - l.at
