-- `columns::fill` meets its contract: the rows from each line on give the whole list. Assumes nothing.
use Prim.Native.Nat.{◌-◌, ◌<◌}
use mathlib.Core.Logic.{⊎_elim}
use native.Mathlib.Omega.{arith}
use borrow.Author.Rules.{rules}
use lib.ListN.{length}
use Rattle.file_lines.proofs.Cuts as cuts
use Rattle.columns.proofs.Filling.{ends_so, Filling, filling_first, put_fits, filling_row, filling_over, filling_last}
use Rattle.columns.proofs.fill.Given as goal

abbrev pub invariant-loop-at : goal.invariant-loop-at
invariant-loop-at l = (h : 13 < l.letter) × Filling l.file l.letter h l.sizes l.places l.initial.list l.list l.at l.put

abbrev pub decreases-loop-at : goal.decreases-loop-at
decreases-loop-at l = length l.file - l.at
