-- For each promise of this crate: two answers that meet it are the same, and so is the block afterwards. Assumes nothing.
use Prim.Native.Nat.{ℕ}
use mathlib.Core.List.{List}
use mathlib.Core.Path.{◌≡◌, sym, ◌∙◌}
use Rattle.rules.specs.declared.Layout.{Layout}
use Rattle.rules_only.proofs.Only.{OnlyBoth}
use Rattle.text_block.specs.Blocks.{Filled}

pub only_filled : (file table : List ℕ) (lines : ℕ) (layout : Layout) (passed : ℕ) (block : List ℕ) → OnlyBoth (Filled file table lines layout passed block)
only_filled file table lines layout passed block r r' after after' s s' =
    let used : r.used ≡ r'.used = s.shown.count ∙ sym s'.shown.count in
    let next : r.passed ≡ r'.passed = s.next ∙ sym s'.next in
    (λ i. record { used = used i; passed = next i }, s.shown.bytes ∙ sym s'.shown.bytes)
