-- Digits that are known to stand there, one at a time; and which stand in a line with a good front. Assumes nothing.
use Rattle.std.specs.Prelude.{None, Option, Some}
use Prim.Native.Nat.{ℕ, ◌+◌, ◌-◌, ◌*◌, ◌^◌, ◌≤◌, ◌<◌}
use mathlib.Core.Bool.{Bool, true, false, ◌||◌}
use mathlib.Core.List.{List}
use mathlib.Core.Logic.{inl, inr}
use mathlib.Core.Path.{◌≡◌, refl, sym, ap, ◌∙◌}
use native.Mathlib.Nat.{pow-le-pow_right}
use native.Mathlib.Omega.{arith}
use borrow.Author.Tests.{le-leb, leb-true}
use lib.Dec.{leb}
use lib.IntN.{pos}
use lib.ListN.{length, get_or, drop}
use mir.Syntax.{w64}
use mir.Val.{Fits}
use Rattle.rules.specs.Choice.{given, on, leads, bytes}
use Rattle.rules.specs.Chars.{is_digit}
use Rattle.rules.specs.Fields.{time_at, is_second, is_either, position_at, altitude_at}
use Rattle.rules.specs.Numbers.{spell, number_at}
use Rattle.rules.proofs.Inverse.{and_inv, given_inv, need_inv, none_some}
use Rattle.rules.proofs.Times.{SecondIn, second_inv}
use Rattle.byte_number.proofs.Laws.{number_long, number_below}
use Rattle.track_step.proofs.Joined.{number_joined, one_some, one_none}
use Rattle.check_front.specs.Front.{between, lows, highs, nears, is_bounded, is_front}
use Rattle.check_front.proofs.There.{Spelt, number_there, no_minus}
use Rattle.track_step.specs.Known.{Numbered}

-- ---- one digit

module _ (s : List ℕ) (at : ℕ) (k : Numbered s at 1) where
  pub one_there : at + 1 ≤ length s
  one_there = number_long s at 1 k.value k.read (omega arith)

  pub one_digit : is_digit (get_or s at 0) ≡ true
  one_digit = by (is_digit (get_or s at 0)) refl
    where
      by : (t : Bool) → is_digit (get_or s at 0) ≡ t → t ≡ true
      by true e = refl
      by false e =
          let n : None ≡ Some k.value = one_none s at one_there e ∙ k.read in
          let z : ◌≡◌ {A = ℕ} 0 1 = cc in absurd (omega arith)

  pub one_is : number_at s at 1 ≡ Some (get_or s at 0 - 48)
  one_is = sym (one_some s at one_there one_digit)

-- ---- m digits and one more

record Split (s : List ℕ) (at m : ℕ) : Type 0 where
  first : Numbered s at m
  last : Numbered s (at + m) 1

module _ (s : List ℕ) (at m : ℕ) (h : m + 1 ≤ 18) where
  abbrev joined : Option ℕ → Option ℕ → Option ℕ
  joined o q = given o None λ v. given q None λ w. Some (v * 10 ^ 1 + w)

  split : Numbered s at (m + 1) → Split s at m
  split k = by (number_at s at m) (number_at s (at + m) 1) refl refl (sym (number_joined s at m 1 h) ∙ k.read)
    where
      by : (o q : Option ℕ) → number_at s at m ≡ o → number_at s (at + m) 1 ≡ q → joined o q ≡ Some k.value → Split s at m
      by (Some v) (Some w) e f g = record { first = record { value = v; read = e }; last = record { value = w; read = f } }
      by (Some v) None e f g = let z : ◌≡◌ {A = ℕ} 0 1 = cc in absurd (omega arith)
      by None q e f g = let z : ◌≡◌ {A = ℕ} 0 1 = cc in absurd (omega arith)

  pub first_known : Numbered s at (m + 1) → Numbered s at m
  first_known k = (split k).first

  pub last_known : Numbered s at (m + 1) → Numbered s (at + m) 1
  last_known k = (split k).last

  pub both_known : (v w : ℕ) → number_at s at m ≡ Some v → number_at s (at + m) 1 ≡ Some w → number_at s at (m + 1) ≡ Some (v * 10 + w)
  both_known v w e f = number_joined s at m 1 h ∙ rw (e, f) (ap Some (omega arith))

-- the place behind a digit that is there
pub known_inside : (s : List ℕ) (at n : ℕ) → 0 < n → Numbered s at n → at + n ≤ length s
known_inside s at n p k = number_long s at n k.value k.read p

-- a place inside them
pub behind_fits : (s : List ℕ) (at n k : ℕ) → 0 < n → k ≤ n → Numbered s at n → length s * 1 < 2 ^ 63 → Fits w64 (at + k)
behind_fits s at n k p h w g = omega (arith, known_inside s at n p w)

-- what they spell
pub small : (s : List ℕ) (at n v : ℕ) → n ≤ 5 → number_at s at n ≡ Some v → v ≤ 99999
small s at n v h e = omega (arith, number_below s at n v e, pow-le-pow_right {n = 10} (omega arith) h)

-- ---- a line with a good front

pub record Digits (l : List ℕ) : Type 0 where
  pub lat : Spelt (number_at l 7 2) 89
  pub lat_minutes : Spelt (number_at l 9 5) 59999
  pub lon : Spelt (number_at l 15 3) 179
  pub lon_minutes : Spelt (number_at l 18 5) 59999
  pub pressure : Spelt (number_at l 25 5) 99999
  pub gnss : Spelt (number_at l 30 5) 99999
  pub north : is_either (get_or l 14 0) 78 83 ≡ true
  pub east : is_either (get_or l 23 0) 69 87 ≡ true
  pub valid : is_either (get_or l 24 0) 65 86 ≡ true

weaker : (o : Option ℕ) (m n : ℕ) → m ≤ n → Spelt o m → Spelt o n
weaker o m n h s = record { value = s.value; read = s.read; below = omega (arith, s.below) }

-- whichever upper bounds are kept, their longitude being below 180 degrees
module _ (l : List ℕ) (north : is_either (get_or l 14 0) 78 83 ≡ true) (east : is_either (get_or l 23 0) 69 87 ≡ true) (valid : is_either (get_or l 24 0) 65 86 ≡ true) where
  digits_by : (high : List ℕ) (degrees : ℕ) → between lows high (drop 3 l) ≡ true → degrees ≤ 179
      → spell 2 0 (drop 4 high) ≡ Some 89 → spell 5 0 (drop 6 high) ≡ Some 59999 → spell 3 0 (drop 12 high) ≡ Some degrees → spell 5 0 (drop 15 high) ≡ Some 59999
      → spell 5 0 (drop 22 high) ≡ Some 99999 → spell 5 0 (drop 27 high) ≡ Some 99999 → Digits l
  unfolding bytes leads is_digit
  digits_by high degrees e h lat north_minutes lon east_minutes p g =
      record {
        lat = number_there lows high l 3 4 2 89 (omega arith) e refl lat;
        lat_minutes = number_there lows high l 3 6 5 59999 (omega arith) e refl north_minutes;
        lon = weaker _ degrees 179 h (number_there lows high l 3 12 3 degrees (omega arith) e refl lon);
        lon_minutes = number_there lows high l 3 15 5 59999 (omega arith) e refl east_minutes;
        pressure = number_there lows high l 3 22 5 99999 (omega arith) e refl p;
        gnss = number_there lows high l 3 27 5 99999 (omega arith) e refl g;
        north = north;
        east = east;
        valid = valid;
      }

  digits_of : (s t : Bool) → between lows highs (drop 3 l) ≡ s → between lows nears (drop 3 l) ≡ t → (s || t) ≡ true → Digits l
  unfolding bytes spell is_digit
  digits_of true t e f o = digits_by highs 179 e (omega arith) refl refl refl refl refl refl
  digits_of false true e f o = digits_by nears 99 f (omega arith) refl refl refl refl refl refl
  digits_of false false e f o = let z : ◌≡◌ {A = ℕ} 0 1 = cc in absurd (omega arith)

pub digits_there : (l : List ℕ) → is_front l ≡ true → Digits l
unfolding is_front is_bounded
digits_there l e =
    let a = and_inv _ _ e in
    let b = and_inv _ _ a.1 in
    let c = and_inv _ _ b.1 in
    digits_of l b.0 c.0 c.1 _ _ refl refl a.0

pub known : (l : List ℕ) (at n most : ℕ) → Spelt (number_at l at n) most → Numbered l at n
known l at n most s = record { value = s.value; read = s.read }

-- what was read is what is spelt
pub at_most : (o : Option ℕ) (v most : ℕ) → Spelt o most → o ≡ Some v → v ≤ most
at_most o v most s e = let q : s.value ≡ v = cc in omega (arith, s.below)

-- a position of these digits
pub position_is : (l : List ℕ) (at width most a b d m top : ℕ) → number_at l at width ≡ Some d → number_at l (at + width) 5 ≡ Some m → d ≤ top → m ≤ 59999 → top * 60000 + 59999 ≤ most
    → is_either (get_or l (at + width + 5) 0) a b ≡ true → position_at l at width most a b ≡ Some (record { count = d * 60000 + m; letter = get_or l (at + width + 5) 0 })
unfolding position_at on
position_is l at width most a b d m top e f g h k i = rw (e, f, le-leb m 59999 h, le-leb (d * 60000 + m) most (omega arith), i)

-- an altitude of five digits
pub altitude_is : (l : List ℕ) (at v : ℕ) → number_at l at 5 ≡ Some v → altitude_at l at ≡ Some (record { metres = pos v })
unfolding altitude_at on
altitude_is l at v e = rw (no_minus l at v _ e refl, e)

-- a time that is read is at most that of the leap second
pub time_most : (l : List ℕ) (at t : ℕ) → time_at l at ≡ Some t → t ≤ 86400
unfolding time_at
time_most l at t e =
    let h = given_inv (number_at l at 2) None (Some t) _ none_some e in
    let m = given_inv (number_at l (at + 2) 2) None (Some t) _ none_some h.2 in
    let x = given_inv (number_at l (at + 4) 2) None (Some t) _ none_some m.2 in
    let p = need_inv (leb h.0 23) None (Some t) _ none_some x.2 in
    let q = need_inv (leb m.0 59) None (Some t) _ none_some p.1 in
    let r = need_inv (is_second h.0 m.0 x.0) None (Some t) _ none_some q.1 in
    by h.0 m.0 x.0 (leb-true _ _ p.0) (leb-true _ _ q.0) (cc) (second_inv h.0 m.0 x.0 r.0)
  where
    by : (h m x : ℕ) → h ≤ 23 → m ≤ 59 → h * 3600 + m * 60 + x ≡ t → SecondIn h m x → t ≤ 86400
    by h m x p q e (inl k) = omega arith
    by h m x p q e (inr k) = omega (arith, k.2)
