-- The lines of so many fixes with one more behind them; and the ways out of the loop that puts them. Assumes nothing.
use Prim.Native.Nat.{ℕ, zero, suc, ◌+◌, ◌-◌, ◌≤◌, ◌<◌}
use mathlib.Core.Bool.{Bool, true, false, cond}
use mathlib.Core.List.{List, [], ◌++◌, append-nil, append_assoc}
use mathlib.Core.Path.{◌≡◌, refl, sym, ap, ◌∙◌}
use native.Mathlib.Numerals.{add-one}
use native.Mathlib.Omega.{arith}
use borrow.Author.Tests.{lt-ltb, le-ltb, ltb-true}
use lib.Dec.{ltb}
use lib.ListN.{length, take}
use lib.Seq.{length-sets}
use Rattle.track_step.specs.Steps.{step_of}
use Rattle.track_rules.specs.declared.FixStep.{FixStep}
use Rattle.track_rules.specs.declared.Progress.{Progress}
use Rattle.text_pieces.specs.Buffer.{PiecePut}
use Rattle.text_pieces.proofs.Laws.{then, nothing}
use Rattle.text_sheet.specs.Sheets.{sheet_of, line_of, lines_from, after_steps, SheetFilled}

-- ---- how many

pub few_most : (left : ℕ) → 380 < left → 380 ≡ sheet_of left
unfolding sheet_of
few_most left h = rw (lt-ltb 380 left h)

pub few_all : (left : ℕ) → left ≤ 380 → left ≡ sheet_of left
unfolding sheet_of
few_all left h = rw (le-ltb 380 left h)

pub few_within : (left n : ℕ) → n ≡ sheet_of left → n ≤ left
unfolding sheet_of
few_within left n e = by (ltb 380 left) refl e
  where
    by : (t : Bool) → ltb 380 left ≡ t → n ≡ cond t 380 left → n ≤ left
    by true g h = omega (arith, ltb-true 380 left g)
    by false g h = omega arith

-- ---- one more

module _ (file : List ℕ) where
  -- the steps up to n and one behind them
  after_more : (from : Progress) (n : ℕ) → after_steps file from (suc n) ≡ (step_of file (after_steps file from n)).next
  unfolding after_steps
  after_more from zero = refl
  after_more from (suc n) = after_more (step_of file from).next n

  lines_more : (from : Progress) (n : ℕ) → lines_from file from (suc n) ≡ lines_from file from n ++ line_of (step_of file (after_steps file from n)).found
  unfolding lines_from after_steps
  lines_more from zero = append-nil _
  lines_more from (suc n) =
      ap (λ (l : List ℕ). line_of (step_of file from).found ++ l) (lines_more (step_of file from).next n)
      ∙ sym (append_assoc (line_of (step_of file from).found) (lines_from file (step_of file from).next n) _)

-- ---- the loop: i fixes are put, and the reading has come so far

pub record Reached (file : List ℕ) (from : Progress) (block : List ℕ) (i used : ℕ) (next : Progress) (now : List ℕ) : Type 0 where
  pub long : length now ≡ length block
  pub put : PiecePut block 0 (lines_from file from i) used now
  pub come : next ≡ after_steps file from i

pub reached_first : (file : List ℕ) (from : Progress) (block : List ℕ) → Reached file from block 0 0 from block
unfolding lines_from after_steps
reached_first file from block = record { long = refl; put = nothing block 0; come = refl }

pub reached_next : (file : List ℕ) (from : Progress) (block now after : List ℕ) (i used r : ℕ) (next : Progress) (s : FixStep) → Reached file from block i used next now → s ≡ step_of file next
    → PiecePut now used (line_of s.found) r after → Reached file from block (i + 1) r s.next after
reached_next file from block now after i used r next s p e q =
    let here : step_of file (after_steps file from i) ≡ s = ap (step_of file) (sym p.come) ∙ sym e in
    rw add-one (record {
      long = ap length q.bytes ∙ length-sets now used (take (length now - used) (line_of s.found)) ∙ p.long;
      put = rw (lines_more file from i, here) (then p.put q);
      come = sym (after_more file from i ∙ ap (λ (t : FixStep). t.next) here);
    })

-- all are put
pub sheet_full : (file : List ℕ) (from : Progress) (left : ℕ) (block now : List ℕ) (n i used : ℕ) (next : Progress) → n ≡ sheet_of left → i ≤ n → n ≤ i → Reached file from block i used next now
    → SheetFilled file from left block (record { used = used; left = left - n; next = next }) now
sheet_full file from left block now n i used next e g h p =
    let same : i ≡ sheet_of left = omega (arith, e) in
    record { put = rw same at p.put; rest = rw e; next = rw same at p.come }
