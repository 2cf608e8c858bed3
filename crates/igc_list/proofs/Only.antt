-- For the promise of this crate: two answers that meet it are the same, and so are the buffer and the table afterwards. Assumes nothing.
use Prim.Native.Nat.{ℕ}
use mathlib.Core.List.{List}
use mathlib.Core.Path.{◌≡◌, sym, ◌∙◌}
use Rattle.rules.specs.declared.Seal.{Seal}
use Rattle.igc_list.specs.First.{Begins}
use Rattle.igc_list.specs.declared.first.Begun.{Begun}

pub only_begins : (seal : Seal) (most : ℕ) (file table out : List ℕ) (r r' : Begun) (entries entries' after after' : List ℕ) → Begins seal most file table out r entries after
    → Begins seal most file table out r' entries' after' → (r ≡ r') × (entries ≡ entries') × (after ≡ after')
only_begins seal most file table out r r' entries entries' after after' b b' =
    let count : r.count ≡ r'.count = b.shown.count ∙ sym b'.shown.count in
    let lines : r.lines ≡ r'.lines = b.lines ∙ sym b'.lines in
    let layout : r.layout ≡ r'.layout = b.layout ∙ sym b'.layout in
    (λ i. record { count = count i; lines = lines i; layout = layout i }, b.entered ∙ sym b'.entered, b.shown.bytes ∙ sym b'.shown.bytes)
