-- The list is afterwards one thing at most. Assumes nothing.
use Prim.Native.Nat.{ℕ}
use mathlib.Core.List.{List}
use lib.IntN.{ℤ}
use Rattle.rules_only.proofs.Only.{Only, same}
use Rattle.columns_row.specs.Cells.{RowPut}

pub only_row_put : (line places : List ℕ) (at : ℕ) (list : List ℤ) → Only (RowPut line places at list)
only_row_put line places at list = same
