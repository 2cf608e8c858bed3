-- A text byte by byte, and two texts compared byte by byte. Assumes nothing.
use Rattle.std.specs.Prelude.{None, Some}
use Prim.Native.Nat.{ℕ, ◌+◌, ◌≤◌, ◌<◌}
use mathlib.Core.Bool.{Bool, true, false, not}
use mathlib.Core.List.{List, [], ◌∷◌}
use mathlib.Core.Path.{◌≡◌, sym, ◌∙◌}
use native.Mathlib.Numerals.{add-one}
use native.Mathlib.Omega.{arith}
use borrow.Author.Tests.{lt-ltb, le-ltb, eq-eqb, ne_eqb, eqb-true, eqb-false, ltb-true, ltb-false}
use lib.Dec.{ltb, eqb}
use lib.ListN.{length, get_or, drop_of_length-le}
use lib.Seq.{drop-cons}
use Rattle.rules.proofs.Inverse.{by_bool}
use Rattle.notes_sorted.proofs.Sorting.{clash}
use Rattle.notes_rules.specs.Notes.{not_after}
use Rattle.notes_rules.specs.Places.{text_at}
use Rattle.notes_compare.specs.Letters.{letter, in_text}

-- ---- a text, byte by byte

module _ (s : List ℕ) (i : ℕ) where
  pub text_past : length s ≤ i → text_at s i ≡ []
  unfolding text_at
  text_past h = rw (drop_of_length-le s h)

  pub text_cr : i < length s → get_or s i 0 ≡ 13 → text_at s i ≡ []
  unfolding text_at
  text_cr h e = rw (drop-cons s i 0 h, eq-eqb (get_or s i 0) 13 e)

  pub text_more : i < length s → (get_or s i 0 ≡ 13 → ⊥) → text_at s i ≡ get_or s i 0 ∷ text_at s (i + 1)
  unfolding text_at
  text_more h e = rw (drop-cons s i 0 h, ne_eqb (get_or s i 0) 13 e, add-one i)

  -- what is known where the text goes on, or has ended
  text_cases : {P : Type 0} → (text_at s i ≡ [] → P) → (i < length s → text_at s i ≡ get_or s i 0 ∷ text_at s (i + 1) → P) → P
  text_cases f g =
      by_bool (ltb i (length s))
      (λ h. by_bool (eqb (get_or s i 0) 13) (λ e. f (text_cr (omega (arith, ltb-true i (length s) h)) (eqb-true (get_or s i 0) 13 e)))
      (λ e. g (ltb-true i (length s) h) (text_more (ltb-true i (length s) h) (eqb-false (get_or s i 0) 13 e))))
      (λ h. f (text_past (ltb-false i (length s) h)))

  pub letter_more : (r : Bool) → r ≡ in_text (text_at s i) → r ≡ true → Some (get_or s i 0) ≡ letter (text_at s i)
  letter_more r e f = text_cases (λ t. clash (sym e ∙ f) (rw t)) (λ h t. rw t)

  pub letter_end : (r : Bool) → r ≡ in_text (text_at s i) → r ≡ false → None ≡ letter (text_at s i)
  letter_end r e f = text_cases (λ t. rw t) (λ h t. clash (rw t) (sym e ∙ f))

  pub letter_inside : (b : ℕ) → Some b ≡ letter (text_at s i) → i < length s
  letter_inside b e = text_cases (λ t. let f : Some b ≡ None = rw t at e in cc) (λ h t. h)

  letter_text : (b : ℕ) → Some b ≡ letter (text_at s i) → text_at s i ≡ b ∷ text_at s (i + 1)
  letter_text b e = text_cases (λ t. let f : Some b ≡ None = rw t at e in cc) (λ h t. let f : Some b ≡ Some (get_or s i 0) = rw t at e in let k : get_or s i 0 ≡ b = cc in rw k at t)

  letter_none : None ≡ letter (text_at s i) → text_at s i ≡ []
  letter_none e = text_cases (λ t. t) (λ h t. let f : None ≡ Some (get_or s i 0) = rw t at e in cc)

  pub in_past : length s ≤ i → false ≡ in_text (text_at s i)
  in_past h = rw (text_past h)

  pub in_told : i < length s → not (eqb (get_or s i 0) 13) ≡ in_text (text_at s i)
  in_told h = by_bool (eqb (get_or s i 0) 13) (λ e. rw (text_cr h (eqb-true _ _ e), e)) (λ e. rw (text_more h (eqb-false _ _ e), e))

  pub in_inside : in_text (text_at s i) ≡ true → i < length s
  in_inside e = text_cases (λ t. clash e (rw t)) (λ h t. h)

  pub in_text_lem : in_text (text_at s i) ≡ true → text_at s i ≡ get_or s i 0 ∷ text_at s (i + 1)
  in_text_lem e = text_cases (λ t. clash e (rw t)) (λ h t. t)

  pub in_none : in_text (text_at s i) ≡ false → text_at s i ≡ []
  in_none e = text_cases (λ t. t) (λ h t. clash (rw t) e)

-- ---- two texts, byte by byte

module _ (s t : List ℕ) (x y : ℕ) where
  pub most_none : None ≡ letter (text_at s x) → true ≡ not_after (text_at s x) (text_at t y)
  most_none e = rw (letter_none s x e)

  module _ (b : ℕ) (e : Some b ≡ letter (text_at s x)) where
    pub most_ended : None ≡ letter (text_at t y) → false ≡ not_after (text_at s x) (text_at t y)
    most_ended f = rw (letter_text s x b e, letter_none t y f)

    module _ (c : ℕ) (f : Some c ≡ letter (text_at t y)) where
      pub most_other : (b ≡ c → ⊥) → ltb b c ≡ not_after (text_at s x) (text_at t y)
      most_other n =
          by_bool (ltb b c)
          (λ l. rw (letter_text s x b e, letter_text t y c f, l))
          (λ l. rw (letter_text s x b e, letter_text t y c f, l, lt-ltb c b (let h = ltb-false b c l in omega arith)))

      pub most_same : b ≡ c → not_after (text_at s (x + 1)) (text_at t (y + 1)) ≡ not_after (text_at s x) (text_at t y)
      most_same d = rw (letter_text s x b e, letter_text t y c f, le-ltb b c (omega arith), le-ltb c b (omega arith))
