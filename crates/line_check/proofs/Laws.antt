-- What `search` puts the ways out of a line's check together from: a link for each answer that the checks ask for. Assumes nothing.
use Rattle.rules.specs.declared.Refusal.{Refusal}
use Rattle.std.specs.Prelude.{None, Ok, Option, Result, Some, ⊤}
use Prim.Native.Nat.{ℕ, suc, ◌+◌, ◌≤◌, ◌<◌}
use mathlib.Core.List.{List, [], ◌∷◌}
use native.Mathlib.Numerals.{add-one, add-two}
use native.Mathlib.Omega.{arith}
use lib.ListN.{length, get_or, drop, length-drop}
use lib.Seq.{drop-cons}
use Rattle.rules.specs.Chars.{is_code}
use Rattle.rules.specs.Layouts.{columns}
use Rattle.rules.specs.Lines.{bad_pair, shaped}
use Rattle.rules.specs.Refusals.{result_told}
use Rattle.rules.specs.declared.AtLimit.{AtLimit}
use Rattle.rules.specs.declared.Layout.{Layout}
use Rattle.byte_shape.proofs.Laws.{accepted_most}
use mathlib.Core.Bool.{Bool, true, false, ◌&&◌, cond}
use mathlib.Core.Path.{◌≡◌, refl, ap, ◌∙◌}
use borrow.Author.Tests.{not-true, not-false}
use Rattle.rules.proofs.Handed.{handed_on}
use Rattle.rules.proofs.Links.{need_true, need_false, cond_eq, cond_ne, on_is, given_some, given_none, then_ok, then_err}
use Rattle.line_fix.proofs.Laws.{refuses_form}

-- ---- a step over the pairs of an F line: the pair at the place i is bad, or what comes after it decides

module _ (s : List ℕ) (i : ℕ) where
  pub pair_past : length s ≤ i + 1 → bad_pair i (drop i s) ≡ None
  unfolding bad_pair
  pair_past h = by_length (drop i s) (omega (arith, length-drop i s))
    where
      by_length : (l : List ℕ) → length l ≤ 1 → bad_pair i l ≡ None
      by_length [] k = refl
      by_length (a ∷ []) k = refl
      by_length (a ∷ b ∷ l) k = absurd (omega arith)

  -- both bytes are there
  pair_there : i + 1 < length s → drop i s ≡ get_or s i 0 ∷ get_or s (i + 1) 0 ∷ drop (i + 2) s
  pair_there h = rw (add-one, add-two) (drop-cons s i 0 (omega arith) ∙ ap (λ l. get_or s i 0 ∷ l) (drop-cons s (suc i) 0 (omega arith)))

  pub pair_good : i + 1 < length s → is_code (get_or s i 0) ≡ true → is_code (get_or s (i + 1) 0) ≡ true → bad_pair i (drop i s) ≡ bad_pair (i + 2) (drop (i + 2) s)
  unfolding bad_pair
  pair_good h a b = rw (pair_there h, a, b)

  pub pair_first : i + 1 < length s → is_code (get_or s i 0) ≡ false → bad_pair i (drop i s) ≡ Some i
  unfolding bad_pair
  pair_first h a = rw (pair_there h, a)

  pub pair_second : i + 1 < length s → is_code (get_or s i 0) ≡ true → is_code (get_or s (i + 1) 0) ≡ false → bad_pair i (drop i s) ≡ Some i
  unfolding bad_pair
  pair_second h a b = rw (pair_there h, a, b)

-- a bad pair stands in the line
pair_below : (at k : ℕ) (l : List ℕ) → bad_pair at l ≡ Some k → k < at + length l
unfolding bad_pair
pair_below at k [] e = let z : ◌≡◌ {A = ℕ} 0 1 = cc in omega arith
pair_below at k (a ∷ []) e = let z : ◌≡◌ {A = ℕ} 0 1 = cc in omega arith
pair_below at k (a ∷ b ∷ l) e = by (is_code a && is_code b) e (pair_below (at + 2) k l)
  where
    by : (t : Bool) → cond t (bad_pair (at + 2) l) (Some at) ≡ Some k → (bad_pair (at + 2) l ≡ Some k → k < at + 2 + length l) → k < at + length (a ∷ b ∷ l)
    by true e h = omega (arith, h e)
    by false e h = let g : at ≡ k = cc in omega arith

-- r is what the search for a bad pair answered, t what the line's shape was found to be
pub pair_within : (l : List ℕ) (i least : ℕ) (in_h : Bool) (r : Option ℕ) (t : Result ⊤ Refusal) → r ≡ bad_pair 7 (drop 7 l) → r ≡ Some i → result_told t ≡ shaped least 255 in_h l → t ≡ (Ok tt) → i + 1 ≤ 262
pair_within l i least in_h r t e g s h =
    let f : bad_pair 7 (drop 7 l) ≡ Some i = rw (← e, g) in
    omega (arith, pair_below 7 i (drop 7 l) f, length-drop 7 l, accepted_most least 255 in_h l t s h)

pub ruleset lines = (refuses_form, not-true, not-false, need_true, need_false, on_is, given_some, given_none, then_ok, then_err)

pub ruleset outs = (lines, handed_on)

pub ruleset plans = (cond_eq, cond_ne, given_some, given_none)

-- the columns were checked by the coordinates that stand at their limits
pub columns_at : (at this : AtLimit) (l : List ℕ) (layout : Layout) (r : Result ⊤ Refusal) → this ≡ at → result_told r ≡ columns this l layout → result_told r ≡ columns at l layout
columns_at at this l layout r e h = rw (← e) h

pub ruleset columned = (then_ok, then_err, handed_on, columns_at)
