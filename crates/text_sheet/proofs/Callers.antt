-- What a caller asks of a sheet: its lines are a part of the block, and fewer fixes are left. Assumes nothing.
use Prim.Native.Nat.{ℕ, ◌-◌, ◌≤◌, ◌<◌}
use mathlib.Core.Bool.{Bool, true, false, cond}
use mathlib.Core.List.{List}
use mathlib.Core.Path.{◌≡◌, sym, ap, ◌∙◌}
use native.Mathlib.Omega.{arith}
use lib.Dec.{ltb}
use lib.ListN.{length, take, length-take}
use lib.Seq.{length-sets, length-take-le}
use Rattle.track_rules.specs.declared.Progress.{Progress}
use Rattle.text_sheet.specs.Sheets.{sheet_of, lines_from, SheetFilled}
use Rattle.text_sheet.specs.declared.Sheet.{Sheet}

module _ {file : List ℕ} {from : Progress} {left : ℕ} {block after : List ℕ} {r : Sheet} (s : SheetFilled file from left block r after) where
  -- `&block[..used]` is in the block
  pub sheet_fits : r.used ≤ length after
  sheet_fits =
      let text = take (length block - 0) (lines_from file from (sheet_of left)) in
      omega (arith, s.put.next, length-take (length block - 0) (lines_from file from (sheet_of left)), ap length s.put.bytes ∙ length-sets block 0 text)

  pub sheet_counts : r.used ≡ length (take r.used after)
  sheet_counts = sym (length-take-le r.used after sheet_fits)

  pub sheet_less : 0 < left → r.left < left
  unfolding sheet_of
  sheet_less h = by (ltb 380 left) s.rest
    where
      by : (t : Bool) → r.left ≡ left - cond t 380 left → r.left < left
      by true e = omega arith
      by false e = omega arith
