-- Two sheets that meet the promise are the same, and so is the block afterwards. Assumes nothing.
use Prim.Native.Nat.{ℕ}
use mathlib.Core.List.{List}
use mathlib.Core.Path.{◌≡◌, sym, ◌∙◌}
use Rattle.track_rules.specs.declared.Progress.{Progress}
use Rattle.text_sheet.specs.Sheets.{SheetFilled}
use Rattle.text_sheet.specs.declared.Sheet.{Sheet}

pub only_sheet_filled : (file : List ℕ) (from : Progress) (left : ℕ) (block : List ℕ) (r r' : Sheet) (after after' : List ℕ) → SheetFilled file from left block r after → SheetFilled file from left block r' after'
    → (r ≡ r') × (after ≡ after')
only_sheet_filled file from left block r r' after after' s s' =
    let used : r.used ≡ r'.used = s.put.next ∙ sym s'.put.next in
    let rest : r.left ≡ r'.left = s.rest ∙ sym s'.rest in
    let next : r.next ≡ r'.next = s.next ∙ sym s'.next in
    (λ i. record { used = used i; left = rest i; next = next i }, s.put.bytes ∙ sym s'.put.bytes)
