-- The lines of so many fixes with one more behind them; and the ways out of the loop that puts them. Assumes nothing.
use Prim.Native.Nat.{ℕ, zero, suc, ◌+◌, ◌-◌, ◌≤◌, ◌<◌}
use mathlib.Core.Bool.{Bool, true, false, cond}
use mathlib.Core.List.{List, [], ◌++◌, append-nil, append_assoc}
use mathlib.Core.Path.{◌≡◌, refl, sym, ap, ◌∙◌}
use native.Mathlib.Numerals.{add-one}
use native.Mathlib.Omega.{arith}
use borrow.Author.Tests.{lt-ltb, le-ltb, ltb-true}
use lib.Dec.{ltb}
use lib.ListN.{length, take}
use lib.Seq.{length-sets}
use Rattle.track_step.specs.Steps.{step_of}
use Rattle.track_rules.specs.declared.FixStep.{FixStep}
use Rattle.track_rules.specs.declared.Progress.{Progress}
use Rattle.text_pieces.specs.Buffer.{PiecePut}
use Rattle.text_pieces.proofs.Laws.{then, nothing}
use Rattle.text_forms.specs.Forms.{line_as}
use Rattle.text_forms.specs.declared.Form.{Form}
use Rattle.text_stretch.specs.Sheets.{sheet_of, lines_from, after_steps, StretchPut, SheetFilled}
use Rattle.text_stretch.specs.declared.Stretch.{Stretch}

-- ---- how many

pub few_most : (left : ℕ) → 360 < left → 360 ≡ sheet_of left
unfolding sheet_of
few_most left h = rw (lt-ltb 360 left h)

pub few_all : (left : ℕ) → left ≤ 360 → left ≡ sheet_of left
unfolding sheet_of
few_all left h = rw (le-ltb 360 left h)

pub few_within : (left n : ℕ) → n ≡ sheet_of left → n ≤ left
unfolding sheet_of
few_within left n e = by (ltb 360 left) refl e
  where
    by : (t : Bool) → ltb 360 left ≡ t → n ≡ cond t 360 left → n ≤ left
    by true g h = omega (arith, ltb-true 360 left g)
    by false g h = omega arith

-- ---- one more

module _ (file : List ℕ) where
  -- the steps up to n and one behind them
  after_more : (from : Progress) (n : ℕ) → after_steps file from (suc n) ≡ (step_of file (after_steps file from n)).next
  unfolding after_steps
  after_more from zero = refl
  after_more from (suc n) = after_more (step_of file from).next n

  lines_more : (form : Form) (from : Progress) (n : ℕ) → lines_from form file from (suc n) ≡ lines_from form file from n ++ line_as form (step_of file (after_steps file from n)).found
  unfolding lines_from after_steps
  lines_more form from zero = append-nil _
  lines_more form from (suc n) =
      ap (λ (l : List ℕ). line_as form (step_of file from).found ++ l) (lines_more form (step_of file from).next n)
      ∙ sym (append_assoc (line_as form (step_of file from).found) (lines_from form file (step_of file from).next n) _)

-- ---- the loop: i fixes are put, and the reading has come so far

pub record Reached (form : Form) (file : List ℕ) (from : Progress) (block : List ℕ) (at i used : ℕ) (next : Progress) (now : List ℕ) : Type 0 where
  pub long : length now ≡ length block
  pub put : PiecePut block at (lines_from form file from i) used now
  pub come : next ≡ after_steps file from i

pub reached_first : (form : Form) (file : List ℕ) (from : Progress) (block : List ℕ) (at : ℕ) → Reached form file from block at 0 at from block
unfolding lines_from after_steps
reached_first form file from block at = record { long = refl; put = nothing block at; come = refl }

pub reached_next : (form : Form) (file : List ℕ) (from : Progress) (block now after : List ℕ) (at i used r : ℕ) (next : Progress) (s : FixStep) → Reached form file from block at i used next now → s ≡ step_of file next
    → PiecePut now used (line_as form s.found) r after → Reached form file from block at (i + 1) r s.next after
reached_next form file from block now after at i used r next s p e q =
    let here : step_of file (after_steps file from i) ≡ s = ap (step_of file) (sym p.come) ∙ sym e in
    rw add-one (record {
      long = ap length q.bytes ∙ length-sets now used (take (length now - used) (line_as form s.found)) ∙ p.long;
      put = rw (lines_more file form from i, here) (then p.put q);
      come = sym (after_more file from i ∙ ap (λ (t : FixStep). t.next) here);
    })

-- all are put
pub stretch_full : (form : Form) (file : List ℕ) (from : Progress) (n : ℕ) (block now : List ℕ) (at i used : ℕ) (next : Progress) → i ≤ n → n ≤ i → Reached form file from block at i used next now
    → StretchPut form file from n block at (record { used = used; next = next }) now
stretch_full form file from n block now at i used next g h p =
    let same : i ≡ n = omega arith in
    record { put = rw same at p.put; next = rw same at p.come }

pub sheet_full : (form : Form) (file : List ℕ) (from : Progress) (left : ℕ) (block now : List ℕ) (n : ℕ) (s : Stretch) → n ≡ sheet_of left → StretchPut form file from n block 0 s now
    → SheetFilled form file from left block (record { used = s.used; left = left - n; next = s.next }) now
sheet_full form file from left block now n s e p = record { put = rw e at p.put; rest = rw e; next = rw e at p.next }
