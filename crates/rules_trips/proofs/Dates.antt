-- A date both ways: DDMMYY reads as a day that exists, of 1980 to 2079, exactly where that day's text stands. Assumes nothing.
use Rattle.std.specs.Prelude.{None, Some}
use Prim.Native.Nat.{ℕ, zero, suc, ◌+◌, ◌%◌, ◌≤◌, ◌<◌}
use mathlib.Core.Bool.{Bool, true, false, cond}
use mathlib.Core.List.{List, [], ◌∷◌, ◌++◌}
use mathlib.Core.Path.{◌≡◌, refl}
use native.Mathlib.Omega.{arith}
use borrow.Author.Tests.{le-leb, leb-true, leb-false, ne_eqb}
use lib.Dec.{leb, eqb}
use lib.ListN.{length, get_or, drop, get_or-eq_default}
use Rattle.rules.specs.Choice.{on, leads}
use Rattle.rules.specs.Numbers.{number_at}
use Rattle.rules.specs.Fields.{is_leap, months, days_of, year_of, date_at, date_text}
use Rattle.rules.specs.declared.Date.{Date}
use Rattle.rules.specs.Limits.{is_date}
use Rattle.rules.proofs.Inverse.{none_some, false_true, given_inv, need_inv, and_inv}
use Rattle.rules.proofs.Texts.{pairs_length}
use Rattle.rules_trips.proofs.Digits.{number_there, pairs_clean, pairs_there, pairs_here}
use Rattle.rules_trips.proofs.Trip.{Trip}

-- ---- the days of a month, and the years of two digits

short : (b : ℕ) (l : List ℕ) (m : ℕ) → leads (λ x. leb x b) (length l) l ≡ true → get_or l m 0 ≤ b
unfolding leads
short b [] m e = omega arith
short b (x ∷ l) zero e = leb-true x b (and_inv (leb x b) _ e).0
short b (x ∷ l) (suc m) e = short b l m (and_inv (leb x b) _ e).1

pub days_most : (y m : ℕ) → days_of y m ≤ 31
unfolding days_of leads
days_most y m = go (eqb m 2) (is_leap y) (short 31 months m refl)
  where
    go : (a b : Bool) {n : ℕ} → n ≤ 31 → cond a (cond b 29 28) n ≤ 31
    go true true h = omega arith
    go true false h = omega arith
    go false b h = h

-- past the table there are no days
pub days_month : (y m : ℕ) → 1 ≤ days_of y m → m ≤ 12
unfolding days_of
days_month y m h = go (leb m 12) refl
  where
    go : (b : Bool) → leb m 12 ≡ b → m ≤ 12
    go true q = leb-true m 12 q
    go false q =
        let l : 12 < m = leb-false m 12 q in
        let z : 1 ≤ 0 = rw (ne_eqb m 2 (omega arith), get_or-eq_default months 0 {n = m} l) at h in
        omega arith

year_range : (yy : ℕ) → yy ≤ 99 → (1980 ≤ year_of yy) × (year_of yy ≤ 2079) × (year_of yy % 100 ≡ yy)
unfolding year_of
year_range yy h = go (leb 80 yy) refl
  where
    go : (b : Bool) → leb 80 yy ≡ b → (1980 ≤ cond b (1900 + yy) (2000 + yy)) × (cond b (1900 + yy) (2000 + yy) ≤ 2079) × (cond b (1900 + yy) (2000 + yy) % 100 ≡ yy)
    go true q = let l = leb-true 80 yy q in (omega arith, omega arith, omega arith)
    go false q = let l = leb-false 80 yy q in (omega arith, omega arith, omega arith)

year_back : (y : ℕ) → 1980 ≤ y → y ≤ 2079 → year_of (y % 100) ≡ y
unfolding year_of
year_back y p q = go (leb 80 (y % 100)) refl
  where
    go : (b : Bool) → leb 80 (y % 100) ≡ b → cond b (1900 + y % 100) (2000 + y % 100) ≡ y
    go true t = let l = leb-true 80 (y % 100) t in omega arith
    go false t = let l = leb-false 80 (y % 100) t in omega arith

-- ---- the date

-- what a date that was read says of the line
pub record DateThere (s : List ℕ) (at : ℕ) (d : Date) : Type 0 where
  pub yy : ℕ
  pub at_day : number_at s at 2 ≡ Some d.day
  pub at_month : number_at s (at + 2) 2 ≡ Some d.month
  pub at_year : number_at s (at + 4) 2 ≡ Some yy
  pub year : year_of yy ≡ d.year
  pub low : 1 ≤ d.day
  pub high : d.day ≤ days_of d.year d.month

pub date_there : (s : List ℕ) (at : ℕ) (d : Date) → date_at s at ≡ Some d → DateThere s at d
unfolding date_at on
date_there s at d e =
    let a = given_inv (number_at s at 2) None (Some d) _ none_some e in
    let b = given_inv (number_at s (at + 2) 2) None (Some d) _ none_some a.2 in
    let c = given_inv (number_at s (at + 4) 2) None (Some d) _ none_some b.2 in
    let p = need_inv (leb 1 a.0) None (Some d) _ none_some c.2 in
    let q = need_inv (leb a.0 (days_of (year_of c.0) b.0)) None (Some d) _ none_some p.1 in
    let i : record { day = a.0; month = b.0; year = year_of c.0 } ≡ d = cc in
    rw (← i) record {
      yy = c.0;
      at_day = a.1;
      at_month = b.1;
      at_year = c.1;
      year = refl;
      low = leb-true _ _ p.0;
      high = leb-true _ _ q.0;
    }

date_limits : (s : List ℕ) (at : ℕ) (d : Date) → DateThere s at d → is_date d ≡ true
unfolding is_date on
date_limits s at d w =
    let y = year_range w.yy (omega (arith, (number_there s (at + 4) 2 (at + 6) w.yy (omega arith) w.at_year).1)) in
    let lo : 1980 ≤ d.year = rw w.year at y.0 in
    let hi : d.year ≤ 2079 = rw w.year at y.1 in
    simp (le-leb _ _ lo, le-leb _ _ hi, le-leb _ _ w.low, le-leb _ _ w.high)

text_there : (s : List ℕ) (at to : ℕ) (d : Date) → at + 6 ≡ to → DateThere s at d → drop at s ≡ date_text d ++ drop to s
unfolding date_text
text_there s at to d t w =
    let y = year_range w.yy (omega (arith, (number_there s (at + 4) 2 (at + 6) w.yy (omega arith) w.at_year).1)) in
    let e : d.year % 100 ≡ w.yy = rw w.year at y.2 in
    rw e (pairs_there s at d.day d.month w.yy to t w.at_day w.at_month w.at_year)

-- what the limits say
pub record DateWithin (d : Date) : Type 0 where
  pub first : 1980 ≤ d.year
  pub final : d.year ≤ 2079
  pub low : 1 ≤ d.day
  pub high : d.day ≤ days_of d.year d.month
  pub days : d.day ≤ 31
  pub months : d.month ≤ 12

pub date_within : (d : Date) → is_date d ≡ true → DateWithin d
unfolding is_date on
date_within d e =
    let a = need_inv (leb 1980 d.year) false true _ false_true e in
    let b = need_inv (leb d.year 2079) false true _ false_true a.1 in
    let c = need_inv (leb 1 d.day) false true _ false_true b.1 in
    let f = need_inv (leb d.day (days_of d.year d.month)) false true _ false_true c.1 in
    let low = leb-true _ _ c.0 in
    let high = leb-true _ _ f.0 in
    record {
      first = leb-true _ _ a.0;
      final = leb-true _ _ b.0;
      low = low;
      high = high;
      days = omega (arith, days_most d.year d.month);
      months = days_month d.year d.month (omega arith);
    }

text_here : (s : List ℕ) (at : ℕ) (d : Date) (r : List ℕ) → DateWithin d → drop at s ≡ date_text d ++ r → date_at s at ≡ Some d
unfolding date_at date_text on
text_here s at d r w e =
    let n = pairs_here s at d.day d.month (d.year % 100) r (omega arith) (omega arith) (omega arith) e in
    simp (n.0, n.1, n.2, year_back d.year w.first w.final, le-leb _ _ w.low, le-leb _ _ w.high)

pub date_trip : Trip date_at date_text 6 is_date
unfolding date_text
date_trip = record {
  long = λ d. pairs_length d.day d.month (d.year % 100);
  clean = λ d g. pairs_clean d.day d.month (d.year % 100);
  there = λ s at to d t e. text_there s at to d t (date_there s at d e);
  limits = λ s at d e. date_limits s at d (date_there s at d e);
  here = λ s at d r g e. text_here s at d r (date_within d g) e;
}
