-- One answer at most meets each promise of this crate, and the list is afterwards one thing. Assumes nothing.
use Prim.Native.Nat.{ℕ}
use mathlib.Core.List.{List}
use lib.IntN.{ℤ}
use Rattle.rules_only.proofs.Told.{result_one}
use Rattle.rules_only.proofs.Only.{Only, OnlyBoth, same, alike}
use Rattle.rules.specs.declared.Layouts.{Layouts}
use Rattle.columns.specs.Columns.{FileColumned}
use Rattle.columns.specs.Lines.{SizesGiven, EndBySizes}
use Rattle.columns.specs.declared.Sizes.{Sizes}

pub only_file_columned : (file : List ℕ) (letter : ℕ) (codes : List ℕ) (list : List ℤ) → OnlyBoth (FileColumned file letter codes list)
only_file_columned file letter codes list r r' after after' w w' = (alike result_one r r' w.told w'.told, same after after' w.numbers w'.numbers)

pub only_sizes_given : (layouts : Layouts) → Only (SizesGiven layouts)
only_sizes_given layouts = same

pub only_end_by_sizes : (file : List ℕ) (at : ℕ) (s : Sizes) → Only (EndBySizes file at s)
only_end_by_sizes file at s = same
