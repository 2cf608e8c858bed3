-- Two answers that meet the promise of this crate are the same. Assumes nothing.
use Prim.Native.Nat.{ℕ}
use mathlib.Core.List.{List}
use Rattle.rules_only.proofs.Only.{Only, alike}
use Rattle.rules_only.proofs.Told.{result_one}
use Rattle.c_seek.specs.Parts.{ColumnSought}

pub only_column_sought : (bytes : ℕ) (ns : List ℕ) (x : ℕ) → Only (ColumnSought bytes ns x)
only_column_sought bytes ns x = alike result_one
