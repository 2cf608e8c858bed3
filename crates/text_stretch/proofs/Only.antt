-- Two sheets that meet the promise are the same, and so is the block afterwards. Assumes nothing.
use Prim.Native.Nat.{ℕ}
use mathlib.Core.List.{List}
use mathlib.Core.Path.{◌≡◌, sym, ◌∙◌}
use Rattle.track_rules.specs.declared.Progress.{Progress}
use Rattle.text_forms.specs.declared.Form.{Form}
use Rattle.text_stretch.specs.Sheets.{StretchPut, SheetFilled}
use Rattle.text_stretch.specs.declared.Sheet.{Sheet}
use Rattle.text_stretch.specs.declared.Stretch.{Stretch}

pub only_sheet_filled : (form : Form) (file : List ℕ) (from : Progress) (left : ℕ) (block : List ℕ) (r r' : Sheet) (after after' : List ℕ) → SheetFilled form file from left block r after → SheetFilled form file from left block r' after'
    → (r ≡ r') × (after ≡ after')
only_sheet_filled form file from left block r r' after after' s s' =
    let used : r.used ≡ r'.used = s.put.next ∙ sym s'.put.next in
    let rest : r.left ≡ r'.left = s.rest ∙ sym s'.rest in
    let next : r.next ≡ r'.next = s.next ∙ sym s'.next in
    (λ i. record { used = used i; left = rest i; next = next i }, s.put.bytes ∙ sym s'.put.bytes)

pub only_stretch_put : (form : Form) (file : List ℕ) (from : Progress) (n : ℕ) (out : List ℕ) (at : ℕ) (r r' : Stretch) (after after' : List ℕ) → StretchPut form file from n out at r after
    → StretchPut form file from n out at r' after' → (r ≡ r') × (after ≡ after')
only_stretch_put form file from n out at r r' after after' s s' =
    let used : r.used ≡ r'.used = s.put.next ∙ sym s'.put.next in
    let next : r.next ≡ r'.next = s.next ∙ sym s'.next in
    (λ i. record { used = used i; next = next i }, s.put.bytes ∙ sym s'.put.bytes)
