-- A time both ways: HHMMSS reads as a second of the day, or as the leap second behind its last, exactly where that second's text stands. Assumes nothing.
use Rattle.std.specs.Prelude.{None, Some}
use Prim.Native.Nat.{ℕ, ◌+◌, ◌*◌, ◌/◌, ◌%◌, ◌≤◌}
use mathlib.Core.Bool.{Bool, true, false}
use mathlib.Core.List.{List, ◌++◌}
use mathlib.Core.Logic.{inl, inr}
use mathlib.Core.Path.{◌≡◌, refl}
use native.Mathlib.Omega.{arith}
use borrow.Author.Tests.{le-leb, leb-true, ne_eqb, eqb-true, eqb-false}
use lib.Dec.{leb, eqb}
use lib.ListN.{drop, length}
use Rattle.rules.specs.Numbers.{number_at, pairs_text}
use Rattle.rules.specs.Fields.{is_second, time_at, time_text}
use Rattle.rules.specs.Limits.{is_time}
use Rattle.rules.proofs.Inverse.{none_some, given_inv, need_inv}
use Rattle.rules.proofs.Times.{SecondIn, second_inv, by_pairs}
use Rattle.rules.proofs.Texts.{pairs_length}
use Rattle.rules_trips.proofs.Digits.{pairs_clean, pairs_there, pairs_here}
use Rattle.rules_trips.proofs.Texts.{are_valid}
use Rattle.rules_trips.proofs.Trip.{Trip}

-- what a time that was read says of the line
pub record TimeThere (s : List ℕ) (at v : ℕ) : Type 0 where
  pub h : ℕ
  pub m : ℕ
  pub x : ℕ
  pub at_h : number_at s at 2 ≡ Some h
  pub at_m : number_at s (at + 2) 2 ≡ Some m
  pub at_x : number_at s (at + 4) 2 ≡ Some x
  pub hours : h ≤ 23
  pub minutes : m ≤ 59
  pub seconds : SecondIn h m x
  pub is : h * 3600 + m * 60 + x ≡ v

pub time_there : (s : List ℕ) (at v : ℕ) → time_at s at ≡ Some v → TimeThere s at v
unfolding time_at
time_there s at v e =
    let h = given_inv (number_at s at 2) None (Some v) _ none_some e in
    let m = given_inv (number_at s (at + 2) 2) None (Some v) _ none_some h.2 in
    let x = given_inv (number_at s (at + 4) 2) None (Some v) _ none_some m.2 in
    let p = need_inv (leb h.0 23) None (Some v) _ none_some x.2 in
    let q = need_inv (leb m.0 59) None (Some v) _ none_some p.1 in
    let r = need_inv (is_second h.0 m.0 x.0) None (Some v) _ none_some q.1 in
    record {
      h = h.0;
      m = m.0;
      x = x.0;
      at_h = h.1;
      at_m = m.1;
      at_x = x.1;
      hours = leb-true _ _ p.0;
      minutes = leb-true _ _ q.0;
      seconds = second_inv h.0 m.0 x.0 r.0;
      is = cc;
    }

most_there : (s : List ℕ) (at v : ℕ) → TimeThere s at v → v ≤ 86400
most_there s at v w = by w.seconds
  where
    by : SecondIn w.h w.m w.x → v ≤ 86400
    by (inl a) = omega arith
    by (inr a) = omega arith

-- ---- the text of a time, by its hours, minutes and seconds

text_usual : (v : ℕ) → v ≤ 86399 → time_text v ≡ pairs_text (v / 3600) (v / 60 % 60) (v % 60)
unfolding time_text
text_usual v h = rw (ne_eqb v 86400 (λ z. omega arith))

text_leap : time_text 86400 ≡ pairs_text 23 59 60
unfolding time_text
text_leap = refl

text_there : (s : List ℕ) (at to v : ℕ) → at + 6 ≡ to → TimeThere s at v → drop at s ≡ time_text v ++ drop to s
text_there s at to v t w = by w.seconds
  where
    by : SecondIn w.h w.m w.x → drop at s ≡ time_text v ++ drop to s
    by (inl a) =
        let h : v / 3600 ≡ w.h = omega arith in
        let m : v / 60 % 60 ≡ w.m = omega arith in
        let x : v % 60 ≡ w.x = omega arith in
        rw (text_usual v (omega arith), h, m, x) (pairs_there s at w.h w.m w.x to t w.at_h w.at_m w.at_x)
    by (inr a) =
        let i : v ≡ 86400 = omega (arith, a.0, a.1, a.2) in
        rw (i, text_leap, ← a.0, ← a.1, ← a.2) (pairs_there s at w.h w.m w.x to t w.at_h w.at_m w.at_x)

text_here : (s : List ℕ) (at v : ℕ) (r : List ℕ) → v ≤ 86400 → drop at s ≡ time_text v ++ r → time_at s at ≡ Some v
unfolding time_at is_second
text_here s at v r g e = by (eqb v 86400) refl
  where
    by : (t : Bool) → eqb v 86400 ≡ t → time_at s at ≡ Some v
    by true q =
        let i : v ≡ 86400 = eqb-true v 86400 q in
        let n = pairs_here s at 23 59 60 r (omega arith) (omega arith) (omega arith) (rw (i, text_leap) at e) in
        simp (n.0, n.1, n.2, i)
    by false q =
        let z = eqb-false v 86400 q in
        let m : v ≤ 86399 = omega (arith, z) in
        let n = pairs_here s at (v / 3600) (v / 60 % 60) (v % 60) r (omega arith) (omega arith) (omega arith) (rw (text_usual v m) at e) in
        let i : v / 3600 * 3600 + v / 60 % 60 * 60 + v % 60 ≡ v = omega arith in
        simp (n.0, n.1, n.2, le-leb (v / 3600) 23 (omega arith), le-leb (v / 60 % 60) 59 (omega arith), le-leb (v % 60) 59 (omega arith), i)

pub time_trip : Trip time_at time_text 6 is_time
time_trip = record {
  long = by_pairs (λ l. length l ≡ 6) pairs_length;
  clean = λ v g. by_pairs (λ l. are_valid l ≡ true) pairs_clean v;
  there = λ s at to v t e. text_there s at to v t (time_there s at v e);
  limits = λ s at v e. le-leb v 86400 (most_there s at v (time_there s at v e));
  here = λ s at v r g e. text_here s at v r (leb-true v 86400 g) e;
}
