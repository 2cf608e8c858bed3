-- The tests of a character, in document 01's words. Assumes nothing.
use Prim.Native.Nat.{ℕ, zero, suc, ◌/◌, ◌%◌}
use mathlib.Core.Bool.{Bool, true, false, not, ◌&&◌, ◌||◌, or-true}
use mathlib.Core.List.{List, [], ◌∷◌, ◌++◌}
use mathlib.Core.Logic.{◌↔◌, inl, inr}
use mathlib.Core.Path.{◌≡◌, refl, ap, ◌∙◌}
use native.Mathlib.Omega.{arith}
use borrow.Author.Tests.{le-leb, leb-true, eqb-false, ne_eqb, not-true}
use lib.Dec.{eqb, leb}
use lib.ListN.{length, drop}
use Rattle.rules.specs.Choice.{leads, Each}
use Rattle.rules.specs.Chars.{is_valid, is_digit, is_code, codes_at}
use Rattle.rules.specs.Listed.{code_text, is_code_word}
use Rattle.rules.proofs.Inverse.{false_true, and_inv}
use Rattle.rules_trips.proofs.Texts.{digit_range}
use Rattle.grammar_words.specs.Characters.{IsValid, IsDigit, IsCode, CodesAt}

-- ---- valid characters

-- not a character of the list
other : (b x : ℕ) → not (eqb b x) ≡ true → b ≡ x → ⊥
other b x e = eqb-false b x (not-true (eqb b x) e)

comma_there : (in_h : Bool) (b : ℕ) → (in_h || not (eqb b 0x2C)) ≡ true → b ≡ 0x2C → in_h ≡ true
comma_there true b e i = refl
comma_there false b e i = absurd (other b 0x2C e i)

comma_here : (in_h : Bool) (b : ℕ) → (b ≡ 0x2C → in_h ≡ true) → (in_h || not (eqb b 0x2C)) ≡ true
comma_here true b h = refl
comma_here false b h = rw (ne_eqb b 0x2C (λ i. false_true (h i)))

pub valid_exactly : (in_h : Bool) (b : ℕ) → (is_valid in_h b ≡ true) ↔ IsValid in_h b
unfolding is_valid
valid_exactly in_h b = (there, here)
  where
    there : is_valid in_h b ≡ true → IsValid in_h b
    there e =
        let h = and_inv (leb 0x20 b && leb b 0x7D && not (eqb b 0x21) && not (eqb b 0x24) && not (eqb b 0x2A) && not (eqb b 0x5C) && not (eqb b 0x5E)) _ e in
        let p = and_inv (leb 0x20 b && leb b 0x7D && not (eqb b 0x21) && not (eqb b 0x24) && not (eqb b 0x2A) && not (eqb b 0x5C)) _ h.0 in
        let q = and_inv (leb 0x20 b && leb b 0x7D && not (eqb b 0x21) && not (eqb b 0x24) && not (eqb b 0x2A)) _ p.0 in
        let r = and_inv (leb 0x20 b && leb b 0x7D && not (eqb b 0x21) && not (eqb b 0x24)) _ q.0 in
        let s = and_inv (leb 0x20 b && leb b 0x7D && not (eqb b 0x21)) _ r.0 in
        let t = and_inv (leb 0x20 b && leb b 0x7D) _ s.0 in
        let u = and_inv (leb 0x20 b) _ t.0 in
        record {
          from = leb-true _ _ u.0;
          to = leb-true _ _ u.1;
          without = (other b 0x21 t.1, (other b 0x24 s.1, (other b 0x2A r.1, (other b 0x5C q.1, (other b 0x5E p.1, tt)))));
          comma = comma_there in_h b h.1;
        }

    here : IsValid in_h b → is_valid in_h b ≡ true
    here w =
        let x = w.without in
        simp (le-leb _ _ w.from, le-leb _ _ w.to, ne_eqb _ _ x.0, ne_eqb _ _ x.1.0, ne_eqb _ _ x.1.1.0, ne_eqb _ _ x.1.1.1.0, ne_eqb _ _ x.1.1.1.1.0) (comma_here in_h b w.comma)

-- ---- digits and code characters

pub digit_exactly : (b : ℕ) → (is_digit b ≡ true) ↔ IsDigit b
unfolding is_digit
digit_exactly b = (digit_range b, λ h. simp (le-leb _ _ h.0, le-leb _ _ h.1))

pub code_exactly : (b : ℕ) → (is_code b ≡ true) ↔ IsCode b
unfolding is_code
code_exactly b = (there (is_digit b) refl, here)
  where
    there : (d : Bool) → is_digit b ≡ d → (d || (leb 65 b && leb b 90)) ≡ true → IsCode b
    there true q e = inr (digit_range b q)
    there false q e = let r = and_inv (leb 65 b) (leb b 90) e in inl (leb-true _ _ r.0, leb-true _ _ r.1)

    here : IsCode b → (is_digit b || (leb 65 b && leb b 90)) ≡ true
    here (inl h) = rw (le-leb _ _ h.0, le-leb _ _ h.1) (or-true (is_digit b))
    here (inr h) = rw ((digit_exactly b).1 h)

-- the three characters of a code
pub word_exactly : (x : ℕ) → (is_code_word x ≡ true) ↔ Each IsCode (code_text x)
unfolding is_code_word
word_exactly x = (
  λ e.
      let p = and_inv (is_code (x / 65536) && is_code (x / 256 % 256)) _ e in
      let q = and_inv (is_code (x / 65536)) _ p.0 in
      ((code_exactly _).0 q.0, ((code_exactly _).0 q.1, ((code_exactly _).0 p.1, tt))),
  λ h. simp ((code_exactly _).1 h.0, (code_exactly _).1 h.1.0, (code_exactly _).1 h.1.1.0),
)

-- so many of them at the front of a list
front_there : (n : ℕ) (l : List ℕ) → leads is_code n l ≡ true → (text rest : List ℕ) × (l ≡ text ++ rest) × (length text ≡ n) × Each IsCode text
unfolding leads
front_there zero l e = ([], l, refl, refl, tt)
front_there (suc n) [] e = absurd (false_true e)
front_there (suc n) (b ∷ l) e =
    let a = and_inv (is_code b) (leads is_code n l) e in
    let r = front_there n l a.1 in
    (b ∷ r.0, r.1, ap (λ x. b ∷ x) r.2, ap suc r.3, ((code_exactly b).0 a.0, r.4))

front_here : (n : ℕ) (t r : List ℕ) → length t ≡ n → Each IsCode t → leads is_code n (t ++ r) ≡ true
unfolding leads
front_here zero [] r e h = refl
front_here zero (b ∷ t) r e h = absurd (omega arith)
front_here (suc n) [] r e h = absurd (omega arith)
front_here (suc n) (b ∷ t) r e h = rw ((code_exactly b).1 h.0) (front_here n t r (omega arith) h.1)

pub codes_exactly : (l : List ℕ) (at n : ℕ) → (codes_at l at n ≡ true) ↔ CodesAt l at n
unfolding codes_at
codes_exactly l at n = (
  λ e. let f = front_there n (drop at l) e in record { text = f.0; rest = f.1; bytes = f.2; count = f.3; each = f.4 },
  λ w. ap (leads is_code n) w.bytes ∙ front_here n w.text w.rest w.count w.each,
)
