-- One answer at most meets the promise of this crate, and the list is afterwards one thing. Assumes nothing.
use Prim.Native.Nat.{ℕ}
use mathlib.Core.List.{List}
use Rattle.rules_only.proofs.Told.{result_one}
use Rattle.rules_only.proofs.Only.{OnlyBoth, same, alike}
use Rattle.declaration.specs.Declaration.{FileDeclared}

pub only_file_declared : (file list : List ℕ) → OnlyBoth (FileDeclared file list)
only_file_declared file list r r' after after' w w' = (alike result_one r r' w.told w'.told, same after after' w.numbers w'.numbers)
