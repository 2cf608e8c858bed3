-- One answer at most meets the promise of this crate, and the list is afterwards one thing. Assumes nothing.
use Prim.Native.Nat.{ℕ}
use mathlib.Core.List.{List}
use mathlib.Core.Path.{◌≡◌}
use lib.IntN.{ℤ}
use Rattle.rules_only.proofs.Only.{OnlyBoth, same, alike}
use Rattle.rules_only.proofs.Told.{result_one}
use Rattle.summary.specs.Summaries.{FileSummed, FileDated}

pub only_file_summed : (file : List ℕ) (old : ℕ) (list : List ℤ) → OnlyBoth (FileSummed file old list)
only_file_summed file old list r r' after after' w w' = (alike result_one r r' w.told w'.told, same after after' w.numbers w'.numbers)

pub only_file_dated : (file : List ℕ) (old : ℕ) (list : List ℤ) → OnlyBoth (FileDated file old list)
only_file_dated file old list r r' after after' w w' =
    let both = only_file_summed file old list r.answer r'.answer after after' w.summed w'.summed in
    let date : r.date ≡ r'.date = same r.date r'.date w.date w'.date in
    (λ i. record { answer = both.0 i; date = date i }, both.1)
