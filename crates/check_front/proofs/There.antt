-- A line with a good front has its position, which is below both limits, its validity and both its altitudes: bytes within bounds that are digits spell a number, and it is no more than what the upper bounds spell. Assumes nothing.
use Rattle.std.specs.Prelude.{Option, Some}
use Prim.Native.Nat.{ℕ, zero, suc, ◌+◌, ◌-◌, ◌*◌, ◌≤◌, ◌<◌}
use mathlib.Core.Bool.{Bool, true, false, ◌&&◌, ◌||◌}
use mathlib.Core.List.{List, [], ◌∷◌}
use mathlib.Core.Path.{◌≡◌, refl}
use native.Mathlib.Omega.{arith}
use borrow.Author.Tests.{le-leb, leb-true, eqb-true}
use lib.Dec.{eqb, leb}
use lib.IntN.{pos}
use lib.ListN.{get_or, drop}
use lib.Seq.{drop-drop}
use Rattle.rules.specs.Choice.{leads, on, bytes}
use Rattle.rules.specs.Chars.{is_digit}
use Rattle.rules.specs.Numbers.{spell, number_at}
use Rattle.rules.specs.Fields.{is_either, most_latitude, most_longitude, position_at, latitude_at, longitude_at, altitude_at}
use Rattle.rules.specs.declared.Position.{Position}
use Rattle.rules.proofs.Inverse.{and_inv}
use Rattle.byte_number.proofs.Laws.{digit_low, digit_high, spell_other, number_long, cond_some}
use Rattle.check_front.specs.Front.{is_within, between, lows, highs, nears, is_bounded, is_front}
use Rattle.check_front.proofs.Laws.{between_drop}

-- ---- digits

-- a number of at most `most` is spelt
pub record Spelt (o : Option ℕ) (most : ℕ) : Type 0 where
  pub value : ℕ
  pub read : o ≡ Some value
  pub below : value ≤ most

digit_within : (a z b : ℕ) → is_digit a ≡ true → is_digit z ≡ true → a ≤ b → b ≤ z → is_digit b ≡ true
unfolding is_digit
digit_within a z b d f g h = rw (le-leb 48 b (omega (arith, digit_low a d)), le-leb b 57 (omega (arith, digit_high z f)))

-- n digits within bounds, after u, spell no more than the upper bounds do after v
spelt : (n u v most : ℕ) (low high l : List ℕ) → u ≤ v → leads is_digit n low ≡ true → between low high l ≡ true → spell n v high ≡ Some most → Spelt (spell n u l) most
unfolding spell leads between is_within
spelt zero u v most low high l h d e s = let q : v ≡ most = cc in record { value = u; read = refl; below = omega arith }
spelt (suc n) u v most [] high l h d e s = let z : ◌≡◌ {A = ℕ} 0 1 = cc in absurd (omega arith)
spelt (suc n) u v most (a ∷ low) [] l h d e s = let z : ◌≡◌ {A = ℕ} 0 1 = cc in absurd (omega arith)
spelt (suc n) u v most (a ∷ low) (z ∷ high) [] h d e s = let z : ◌≡◌ {A = ℕ} 0 1 = cc in absurd (omega arith)
spelt (suc n) u v most (a ∷ low) (z ∷ high) (b ∷ l) h d e s =
    let first = and_inv (is_digit a) (leads is_digit n low) d in
    let here = and_inv (leb a b && leb b z) (between low high l) e in
    let both = and_inv (leb a b) (leb b z) here.0 in
    let top = cond_some (is_digit z) (spell n (v * 10 + (z - 48)) high) most s in
    let from : a ≤ b = leb-true a b both.0 in
    let upto : b ≤ z = leb-true b z both.1 in
    let r = spelt n (u * 10 + (b - 48)) (v * 10 + (z - 48)) most low high l (omega arith) first.1 here.1 top.1 in
    record { value = r.value; read = rw (digit_within a z b first.0 top.0 from upto) r.read; below = r.below }

-- the n digits behind k others within bounds
pub number_there : (low high l : List ℕ) (at k n most : ℕ) → n ≤ 18 → between low high (drop at l) ≡ true → leads is_digit n (drop k low) ≡ true → spell n 0 (drop k high) ≡ Some most → Spelt (number_at l (at + k) n) most
unfolding number_at
number_there low high l at k n most h e d s =
    let r = spelt n 0 0 most (drop k low) (drop k high) (drop k (drop at l)) (omega arith) d (between_drop k low high (drop at l) e) s in
    record { value = r.value; read = rw (le-leb n 18 h, ← drop-drop k at l) r.read; below = r.below }

-- ---- fields

pub record There {A : Type 0} (o : Option A) : Type 0 where
  pub value : A
  pub read : o ≡ Some value

-- a position below its limit is read
pub record Below (o : Option Position) (most : ℕ) : Type 0 where
  pub value : Position
  pub read : o ≡ Some value
  pub below : value.count < most

module _ (l : List ℕ) (at : ℕ) where
  position_there : (width most a b degrees : ℕ) → Spelt (number_at l at width) degrees → Spelt (number_at l (at + width) 5) 59999 → degrees * 60000 + 59999 < most → is_either (get_or l (at + width + 5) 0) a b ≡ true
      → Below (position_at l at width most a b) most
  unfolding position_at on
  position_there width most a b degrees d m h e =
      let low : d.value ≤ degrees = d.below in
      let minutes : m.value ≤ 59999 = m.below in
      record {
        value = record { count = d.value * 60000 + m.value; letter = get_or l (at + width + 5) 0 };
        read = rw (d.read, m.read, le-leb m.value 59999 minutes, le-leb (d.value * 60000 + m.value) most (omega arith), e);
        below = omega arith;
      }

  pub no_minus : (v : ℕ) (t : Bool) → number_at l at 5 ≡ Some v → eqb (get_or l at 0) 45 ≡ t → t ≡ false
  unfolding number_at is_digit
  no_minus v false e f = refl
  no_minus v true e f =
      let b : get_or l at 0 ≡ 45 = eqb-true (get_or l at 0) 45 f in
      let n = spell_other 5 0 l at (omega arith) (omega (arith, number_long l at 5 v e (omega arith))) (rw b) in
      let z : ◌≡◌ {A = ℕ} 0 1 = cc in absurd (omega arith)

  altitude_there : (most : ℕ) → Spelt (number_at l at 5) most → There (altitude_at l at)
  unfolding altitude_at on
  altitude_there most s =
      record { value = record { metres = pos s.value }; read = rw (no_minus s.value _ s.read refl, s.read) }

pub record Front (l : List ℕ) : Type 0 where
  pub lat : Below (latitude_at l 7) most_latitude
  pub lon : Below (longitude_at l 15) most_longitude
  pub valid : is_either (get_or l 24 0) 65 86 ≡ true
  pub pressure : There (altitude_at l 25)
  pub gnss : There (altitude_at l 30)

-- whichever upper bounds are kept, their longitude being below 180 degrees
module _ (l : List ℕ) (north : is_either (get_or l 14 0) 78 83 ≡ true) (east : is_either (get_or l 23 0) 69 87 ≡ true) (valid : is_either (get_or l 24 0) 65 86 ≡ true) where
  front_by : (high : List ℕ) (degrees : ℕ) → between lows high (drop 3 l) ≡ true → degrees ≤ 179
      → spell 2 0 (drop 4 high) ≡ Some 89 → spell 5 0 (drop 6 high) ≡ Some 59999 → spell 3 0 (drop 12 high) ≡ Some degrees → spell 5 0 (drop 15 high) ≡ Some 59999
      → spell 5 0 (drop 22 high) ≡ Some 99999 → spell 5 0 (drop 27 high) ≡ Some 99999 → Front l
  unfolding bytes leads is_digit
  front_by high degrees e h lat north_minutes lon east_minutes p g =
      record {
        lat = position_there l 7 2 5400000 78 83 89 (number_there lows high l 3 4 2 89 (omega arith) e refl lat) (number_there lows high l 3 6 5 59999 (omega arith) e refl north_minutes) (omega arith) north;
        lon = position_there l 15 3 10800000 69 87 degrees (number_there lows high l 3 12 3 degrees (omega arith) e refl lon) (number_there lows high l 3 15 5 59999 (omega arith) e refl east_minutes) (omega arith) east;
        valid = valid;
        pressure = altitude_there l 25 99999 (number_there lows high l 3 22 5 99999 (omega arith) e refl p);
        gnss = altitude_there l 30 99999 (number_there lows high l 3 27 5 99999 (omega arith) e refl g);
      }

  front_of : (s t : Bool) → between lows highs (drop 3 l) ≡ s → between lows nears (drop 3 l) ≡ t → (s || t) ≡ true → Front l
  unfolding bytes spell is_digit
  front_of true t e f o = front_by highs 179 e (omega arith) refl refl refl refl refl refl
  front_of false true e f o = front_by nears 99 f (omega arith) refl refl refl refl refl refl
  front_of false false e f o = let z : ◌≡◌ {A = ℕ} 0 1 = cc in absurd (omega arith)

pub front_there : (l : List ℕ) → is_front l ≡ true → Front l
unfolding is_front is_bounded
front_there l e =
    let a = and_inv _ _ e in
    let b = and_inv _ _ a.1 in
    let c = and_inv _ _ b.1 in
    front_of l b.0 c.0 c.1 _ _ refl refl a.0
