-- A line written by a layout that is given as its line: refused with its layout, or as the writer says. Assumes nothing.
use Rattle.std.specs.Prelude.{Err, None, Ok, Option, Result, Some}
use Prim.Native.Nat.{ℕ}
use mathlib.Core.Bool.{Bool}
use mathlib.Core.List.{List, []}
use mathlib.Core.Path.{◌≡◌, refl, sym, ◌∙◌, ap}
use native.Mathlib.Omega.{arith}
use Rattle.rules.specs.Choice.{given}
use Rattle.rules.specs.Layouts.{LayoutTold, empty_layout}
use Rattle.rules.specs.Promises.{Written}
use Rattle.rules.specs.Refusals.{Said, says, refuses, no, refusal, and_then, value_or, result_told}
use Rattle.rules.specs.Writes.{written, out_after}
use Rattle.rules.specs.declared.Family.{Family}
use Rattle.rules.specs.declared.Layout.{Layout}
use Rattle.rules.specs.declared.Reason.TheVariants.{BadValue}
use Rattle.rules.specs.declared.Refusal.{Refusal}
use Rattle.c_given.specs.Given.{or_bad_value}
use Rattle.rules.proofs.Links.{then_ok, then_err}
use Rattle.rules.proofs.Inverse.{refuses_says}
use Rattle.c_given_write.specs.Written.{SaidWritten}

module _ (text : List ℕ) (place : ℕ) (out : List ℕ) where
  said_refused : (said : Said ℕ) (w : Refusal) → refusal w ≡ said → SaidWritten said text place out (Err w) out
  unfolding result_told out_after
  said_refused said w e = rw (← e) (record { told = refl; bytes = refl })

  pub said_written : (said : Said ℕ) (good : Bool) (r : Result ℕ Refusal) (after : List ℕ) → written good text place out ≡ said → Written good text place out r after → SaidWritten said text place out r after
  said_written said good r after e w = record { told = w.told ∙ e; bytes = rw e at w.bytes }

  module _ (s : Said Layout) (g : Result Layout Refusal) (good : Layout → Bool) (t : LayoutTold s g) where
    -- the layout is refused, and nothing is written
    pub write_refused : (w : Refusal) → g ≡ Err w → SaidWritten (and_then s (λ l. written (good l) text place out)) text place out (Err w) out
    write_refused w e = said_refused _ w (then_err s g w _ _ t e refl)

    -- the writer's answer with the layout that was read
    pub write_then : (v : Layout) (r : Result ℕ Refusal) (after : List ℕ) → g ≡ Ok v → Written (good v) text place out r after → SaidWritten (and_then s (λ l. written (good l) text place out)) text place out r after
    write_then v r after e w = said_written _ _ r after (then_ok s g v _ (λ l. written (good l) text place out) t e refl) w

-- ---- a layout written from its line

module _ (text : Layout → List ℕ) (good : Layout → Bool) (place : ℕ) (out : List ℕ) where
  pub told_then : (s : Said Layout) (g : Result Layout Refusal) → LayoutTold s g → (v : Layout) → g ≡ Ok v → (r : Result ℕ Refusal) (after : List ℕ) → Written (good v) (text v) place out r after
      → SaidWritten (and_then (or_bad_value s) (λ l. written (good l) (text l) place out)) (text (value_or empty_layout s)) place out r after
  unfolding result_told
  told_then (says x) g t v e r after w =
      let h : says v ≡ says x = rw e at t in
      let same : v ≡ x = cc in
      rw (← same) (record { told = w.told; bytes = w.bytes })
  told_then (refuses n l b) g t v e r after w =
      let h : says v ≡ refuses n l b = rw e at t in
      absurd (refuses_says (sym h))

  pub told_refused : (s : Said Layout) (g : Result Layout Refusal) → LayoutTold s g → (w : Refusal) → g ≡ Err w → (t : List ℕ)
      → SaidWritten (and_then (or_bad_value s) (λ l. written (good l) (text l) place out)) t place out (Err (record { reason = BadValue; line = 0; byte = 0 })) out
  unfolding result_told out_after
  told_refused (says v) g l w e t = let h : refusal w ≡ says v = rw e at l in absurd (refuses_says h)
  told_refused (refuses n k b) g l w e t = record { told = refl; bytes = refl }

-- ---- what is written of a value that there is; where there is none, nothing is written

module _ {A : Type 0} (n : Option A) (said : A → Said ℕ) (text : A → List ℕ) (place : ℕ) (out : List ℕ) where
  pub some_written : (v : A) (r : Result ℕ Refusal) (after : List ℕ) → n ≡ Some v → SaidWritten (said v) (text v) place out r after → SaidWritten (given n (no BadValue 0) said) (given n [] text) place out r after
  some_written v r after e w = rw e w

  pub none_written : n ≡ None → SaidWritten (given n (no BadValue 0) said) (given n [] text) place out (Err (record { reason = BadValue; line = 0; byte = 0 })) out
  unfolding result_told out_after
  none_written e = rw e (record { told = refl; bytes = refl })

-- the family whose layout the line tells
module _ (n : Option Family) (g : Option Family) (e : g ≡ n) (said : Family → Said ℕ) (text : Family → List ℕ) (place : ℕ) (out : List ℕ) where
  pub family_then : (f : Family) (r : Result ℕ Refusal) (after : List ℕ) → g ≡ Some f → SaidWritten (said f) (text f) place out r after → SaidWritten (given n (no BadValue 0) said) (given n [] text) place out r after
  family_then f r after h w = some_written n said text place out f r after (sym e ∙ h) w

  pub family_refused : g ≡ None → SaidWritten (given n (no BadValue 0) said) (given n [] text) place out (Err (record { reason = BadValue; line = 0; byte = 0 })) out
  family_refused h = none_written n said text place out (sym e ∙ h)
