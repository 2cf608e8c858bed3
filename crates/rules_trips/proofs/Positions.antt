-- A position both ways, over the digits of its degrees, the most that it counts and its two letters; so a latitude and a longitude. Assumes nothing.
use Rattle.std.specs.Prelude.{None, Some}
use Prim.Native.Nat.{ℕ, ◌+◌, ◌*◌, ◌/◌, ◌%◌, ◌^◌, ◌≤◌, ◌<◌}
use Prim.Native.Char.{code}
use mathlib.Core.Bool.{Bool, true, false, ◌||◌}
use mathlib.Core.List.{List, ◌∷◌, ◌++◌, append_assoc}
use mathlib.Core.Path.{◌≡◌, refl}
use native.Mathlib.Omega.{arith}
use borrow.Author.Tests.{le-leb, leb-true, eqb-true}
use lib.Dec.{leb, eqb}
use lib.ListN.{get_or, drop, length-append}
use Rattle.rules.specs.Choice.{on}
use Rattle.rules.specs.Chars.{is_valid}
use Rattle.rules.specs.Numbers.{number_at, digits_of}
use Rattle.rules.specs.Fields.{is_either, position_at, position_text, latitude_at, longitude_at, latitude_text, longitude_text}
use Rattle.rules.specs.Degrees.{is_position, is_latitude, is_longitude}
use Rattle.rules.specs.declared.Position.{Position}
use Rattle.rules.proofs.Inverse.{none_some, given_inv, need_inv, and_inv}
use Rattle.rules.proofs.Texts.{digits_length}
use Rattle.rules_trips.proofs.Laws.{past, byte_there, byte_here}
use Rattle.rules_trips.proofs.Texts.{are_valid, both_valid, valid_low}
use Rattle.rules_trips.proofs.Digits.{digits_clean, number_there, number_here}
use Rattle.rules_trips.proofs.Trip.{Trip}

-- one of two valid characters is valid
pub either_valid : (x a b : ℕ) → is_valid false a ≡ true → is_valid false b ≡ true → is_either x a b ≡ true → is_valid false x ≡ true
unfolding is_either
either_valid x a b p q e = go (eqb x a) refl e
  where
    go : (t : Bool) → eqb x a ≡ t → (t || eqb x b) ≡ true → is_valid false x ≡ true
    go true h e = rw (eqb-true x a h) p
    go false h e = rw (eqb-true x b e) q

-- what a position that was read says of the line
pub record PositionThere (s : List ℕ) (at width most a b : ℕ) (p : Position) : Type 0 where
  pub d : ℕ
  pub m : ℕ
  pub at_d : number_at s at width ≡ Some d
  pub at_m : number_at s (at + width) 5 ≡ Some m
  pub at_letter : get_or s (at + width + 5) 0 ≡ p.letter
  pub minutes : m ≤ 59999
  pub is : d * 60000 + m ≡ p.count
  pub within : p.count ≤ most
  pub lettered : is_either p.letter a b ≡ true

pub position_there : (s : List ℕ) (at width most a b : ℕ) (p : Position) → position_at s at width most a b ≡ Some p → PositionThere s at width most a b p
unfolding position_at on
position_there s at width most a b p e =
    let d = given_inv (number_at s at width) None (Some p) _ none_some e in
    let m = given_inv (number_at s (at + width) 5) None (Some p) _ none_some d.2 in
    let x = need_inv (leb m.0 59999) None (Some p) _ none_some m.2 in
    let y = need_inv (leb (d.0 * 60000 + m.0) most) None (Some p) _ none_some x.1 in
    let z = need_inv (is_either (get_or s (at + width + 5) 0) a b) None (Some p) _ none_some y.1 in
    let i : record { count = d.0 * 60000 + m.0; letter = get_or s (at + width + 5) 0 } ≡ p = cc in
    rw (← i) record {
      d = d.0;
      m = m.0;
      at_d = d.1;
      at_m = m.1;
      at_letter = refl;
      minutes = leb-true _ _ x.0;
      is = refl;
      within = leb-true _ _ y.0;
      lettered = z.0;
    }

module _ (width most a b : ℕ) (narrow : width ≤ 18) (fits : most < 60000 * 10 ^ width) (va : is_valid false a ≡ true) (vb : is_valid false b ≡ true) where
  text_there : (s : List ℕ) (at to : ℕ) (p : Position) → at + (width + 6) ≡ to → PositionThere s at width most a b p
      → drop at s ≡ position_text width p ++ drop to s
  unfolding position_text
  text_there s at to p t w =
      let d : p.count / 60000 ≡ w.d = omega arith in
      let m : p.count % 60000 ≡ w.m = omega arith in
      let l = byte_there s (at + width + 5) to p.letter (omega arith) (valid_low _ (either_valid _ a b va vb w.lettered)) w.at_letter in
      rw (d, m, (number_there s at width (at + width) w.d refl w.at_d).0, (number_there s (at + width) 5 (at + width + 5) w.m refl w.at_m).0, l)
      (simp append_assoc)

  text_here : (s : List ℕ) (at : ℕ) (p : Position) (r : List ℕ) → p.count ≤ most → is_either p.letter a b ≡ true → drop at s ≡ position_text width p ++ r
      → position_at s at width most a b ≡ Some p
  unfolding position_text position_at on
  text_here s at p r h g e =
      let d = p.count / 60000 in
      let m = p.count % 60000 in
      let e₁ : drop at s ≡ digits_of width d ++ (digits_of 5 m ++ (p.letter ∷ r)) = simp append_assoc at e in
      let e₂ = past s at width (at + width) (digits_of width d) _ (digits_length width d) refl e₁ in
      let e₃ = past s (at + width) 5 (at + width + 5) (digits_of 5 m) _ (digits_length 5 m) refl e₂ in
      let i : d * 60000 + m ≡ p.count = omega arith in
      simp (
        number_here s at width d _ narrow (omega arith) e₁,
        number_here s (at + width) 5 m _ (omega arith) (omega arith) e₂,
        byte_here s (at + width + 5) p.letter r e₃,
        le-leb m 59999 (omega arith),
        i,
        le-leb _ _ h,
        g,
      )

  pub position_trip : Trip (λ s at. position_at s at width most a b) (position_text width) (width + 6) (is_position most a b)
  unfolding position_text is_position are_valid
  position_trip = record {
    long = λ p. simp (length-append, digits_length);
    clean = λ p g. both_valid (digits_of width _) _ (digits_clean width _) (both_valid (digits_of 5 _) _ (digits_clean 5 _) (rw (either_valid p.letter a b va vb (and_inv (leb p.count most) _ g).1)));
    there = λ s at to p t e. text_there s at to p t (position_there s at width most a b p e);
    limits = λ s at p e. let w = position_there s at width most a b p e in simp (le-leb _ _ w.within, w.lettered);
    here = λ s at p r g e. let w = and_inv (leb p.count most) _ g in text_here s at p r (leb-true _ _ w.0) w.1 e;
  }

pub latitude_trip : Trip latitude_at latitude_text 8 is_latitude
unfolding is_valid
latitude_trip = position_trip 2 5400000 (code "N") (code "S") (omega arith) (omega arith) refl refl

pub longitude_trip : Trip longitude_at longitude_text 9 is_longitude
unfolding is_valid
longitude_trip = position_trip 3 10800000 (code "E") (code "W") (omega arith) (omega arith) refl refl
