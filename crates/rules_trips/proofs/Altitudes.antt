-- An altitude both ways: five digits, or a minus and four that are not all zero, read as metres exactly where those metres' text stands. Assumes nothing.
use Rattle.std.specs.Prelude.{None, Some}
use Prim.Native.Nat.{ℕ, zero, suc, ◌+◌, ◌/◌, ◌%◌, ◌^◌, ◌≤◌}
use Prim.Native.Char.{code}
use mathlib.Core.Bool.{Bool, true, false, cond}
use mathlib.Core.List.{List, [], ◌∷◌, ◌++◌}
use mathlib.Core.Path.{◌≡◌, refl, sym, ◌∙◌, ap}
use native.Mathlib.Numerals.{add-one}
use native.Mathlib.Omega.{arith}
use borrow.Author.Tests.{le-leb, leb-true, eqb-true, eq-eqb, ne_eqb}
use lib.Dec.{leb, eqb}
use lib.IntN.{ℤ, pos, negsuc, neg_ℤ}
use lib.ListN.{get_or, drop}
use Rattle.rules.specs.Choice.{given, need, on}
use Rattle.rules.specs.Chars.{is_valid}
use Rattle.rules.specs.Numbers.{number_at, digits_of}
use Rattle.rules.specs.Fields.{altitude_at, altitude_text, metres_text}
use Rattle.rules.specs.declared.Height.{Height}
use Rattle.rules.specs.Limits.{is_metres, is_altitude}
use Rattle.rules.proofs.Inverse.{none_some, given_inv, need_inv}
use Rattle.rules.proofs.Texts.{metres_length}
use Rattle.rules_trips.proofs.Laws.{past, byte_there, byte_here}
use Rattle.rules_trips.proofs.Texts.{are_valid}
use Rattle.rules_trips.proofs.Digits.{digits_clean, digits_front, number_there, number_here}
use Rattle.rules_trips.proofs.Trip.{Trip}

-- what an altitude that was read says of the line: the digits of metres, or a minus and the digits of metres below
pub data MetresThere (s : List ℕ) (at : ℕ) : ℤ → Type 0 where
  above : (n : ℕ) → number_at s at 5 ≡ Some n → MetresThere s at (pos n)
  below : (n : ℕ) → get_or s at 0 ≡ code "-" → number_at s (at + 1) 4 ≡ Some (n + 1) → MetresThere s at (negsuc n)

pub altitude_there : (s : List ℕ) (at : ℕ) (h : Height) → altitude_at s at ≡ Some h → MetresThere s at h.metres
unfolding altitude_at on
altitude_there s at h e = go (eqb (get_or s at 0) (code "-")) refl e
  where
    low : (v : ℕ) → get_or s at 0 ≡ code "-" → number_at s (at + 1) 4 ≡ Some v → 1 ≤ v → MetresThere s at (neg_ℤ (pos v))
    low zero m n p = let z : ⊥ = omega arith in absurd z
    low (suc v) m n p = below v m (n ∙ ap Some (sym (add-one v)))

    go : (b : Bool) → eqb (get_or s at 0) (code "-") ≡ b
        → cond b
        (given (number_at s (at + 1) 4) None λ v. need (leb 1 v) None λ _. Some (record { metres = neg_ℤ (pos v) }))
        (given (number_at s at 5) None λ v. Some (record { metres = pos v }))
        ≡ Some h
        → MetresThere s at h.metres
    go true q e =
        let v = given_inv (number_at s (at + 1) 4) None (Some h) _ none_some e in
        let p = need_inv (leb 1 v.0) None (Some h) _ none_some v.2 in
        let i : record { metres = neg_ℤ (pos v.0) } ≡ h = cc in
        rw (← i) (low v.0 (eqb-true _ _ q) v.1 (leb-true _ _ p.0))
    go false q e =
        let v = given_inv (number_at s at 5) None (Some h) _ none_some e in
        let i : record { metres = pos v.0 } ≡ h = cc in
        rw (← i) (above v.0 v.1)

text_there : (s : List ℕ) (at to : ℕ) (z : ℤ) → at + 5 ≡ to → MetresThere s at z → drop at s ≡ metres_text z ++ drop to s
text_there s at to z t (above n e) = (number_there s at 5 to n t e).0
text_there s at to z t (below n m e) =
    byte_there s at (at + 1) (code "-") refl (omega arith) m ∙ ap (λ l. code "-" ∷ l) (number_there s (at + 1) 4 to (n + 1) (omega arith) e).0

within : (s : List ℕ) (at : ℕ) (z : ℤ) → MetresThere s at z → is_metres z ≡ true
within s at z (above n e) = le-leb n 99999 (omega (arith, (number_there s at 5 (at + 5) n refl e).1))
within s at z (below n m e) = le-leb (n + 1) 9999 (omega (arith, (number_there s (at + 1) 4 (at + 5) (n + 1) (omega arith) e).1))

text_here : (s : List ℕ) (at : ℕ) (z : ℤ) (r : List ℕ) → is_metres z ≡ true → drop at s ≡ metres_text z ++ r → altitude_at s at ≡ Some (record { metres = z })
unfolding altitude_at on
text_here s at (pos n) r h e =
    let d = byte_here s at (48 + n / 10 ^ 4 % 10) _ (rw digits_front at e) in
    simp (ne_eqb (get_or s at 0) (code "-") (omega arith), number_here s at 5 n r (omega arith) (omega (arith, leb-true n 99999 h)) e)
text_here s at (negsuc n) r h e =
    let m = byte_here s at (code "-") _ e in
    let e₂ = past s at 1 (at + 1) (code "-" ∷ []) _ refl refl e in
    let v = number_here s (at + 1) 4 (n + 1) r (omega arith) (omega (arith, leb-true (n + 1) 9999 h)) e₂ in
    simp (eq-eqb (get_or s at 0) (code "-") m, v ∙ ap Some (add-one n), le-leb 1 (suc n) (omega arith))

clean : (z : ℤ) → are_valid (metres_text z) ≡ true
unfolding are_valid is_valid
clean (pos n) = digits_clean 5 n
clean (negsuc n) = digits_clean 4 (n + 1)

pub altitude_trip : Trip altitude_at altitude_text 5 is_altitude
unfolding altitude_text is_altitude
altitude_trip = record {
  long = λ h. metres_length h.metres;
  clean = λ h g. clean h.metres;
  there = λ s at to h t e. text_there s at to h.metres t (altitude_there s at h e);
  limits = λ s at h e. within s at h.metres (altitude_there s at h e);
  here = λ s at h r g e. text_here s at h.metres r g e;
}

-- a minus and four zeros are no altitude
pub no_minus_zero : (s : List ℕ) (at : ℕ) (r : List ℕ) → drop at s ≡ code "-" ∷ (digits_of 4 0 ++ r) → altitude_at s at ≡ None
unfolding altitude_at on
no_minus_zero s at r e =
    let m = byte_here s at (code "-") _ e in
    let e₂ = past s at 1 (at + 1) (code "-" ∷ []) _ refl refl e in
    simp (eq-eqb (get_or s at 0) (code "-") m, number_here s (at + 1) 4 0 r (omega arith) (omega arith) e₂)
