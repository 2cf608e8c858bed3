-- For each promise of this crate: two answers that meet it are the same. Assumes nothing.
use Prim.Native.Nat.{ℕ}
use mathlib.Core.List.{List}
use Rattle.rules_only.proofs.Only.{Only, alike}
use Rattle.rules_only.proofs.Told.{result_one}
use Rattle.c_look.specs.Looks.{LookBy, LookNumberBy}

pub only_look_by : (line ns name : List ℕ) → Only (LookBy line ns name)
only_look_by line ns name = alike result_one

pub only_look_number_by : (line ns name : List ℕ) → Only (LookNumberBy line ns name)
only_look_number_by line ns name = alike result_one
