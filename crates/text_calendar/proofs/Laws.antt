-- Days one after the other, within a month, over a month, over a year and over four centuries; and that later is later. Assumes nothing.
use Prim.Native.Nat.{ℕ, zero, suc, ◌+◌, ◌-◌, ◌*◌, ◌/◌, ◌%◌, ◌≤◌, ◌<◌}
use mathlib.Core.Bool.{Bool, true, false, cond}
use mathlib.Core.Path.{◌≡◌, refl, sym, ap, ◌∙◌}
use native.Mathlib.Nat.{zero-add, suc-add}
use native.Mathlib.Omega.{arith}
use borrow.Author.Tests.{lt-ltb, le-ltb, ltb-true, ltb-false, eqb-true, eqb-false, eq-eqb, ne_eqb, le-leb, lt-leb}
use lib.Dec.{ltb, leb, eqb}
use Rattle.rules.specs.Fields.{is_leap, months, days_of}
use Rattle.rules.specs.declared.Date.{Date}
use Rattle.rules_trips.proofs.Dates.{days_most, days_month}
use Rattle.text_calendar.specs.Calendar.{opening, month_behind, year_behind, next_day, days_after, rank}
use Rattle.text_calendar.specs.Steps.{february_from, year_from}

-- ---- days

-- some days later, and some more
pub after_more : (a b : ℕ) (d : Date) → days_after (a + b) d ≡ days_after a (days_after b d)
unfolding days_after
after_more zero b d = rw zero-add
after_more (suc a) b d = rw suc-add (ap next_day (after_more a b d))

-- ---- a month

-- what holds of 1 to 12 holds of each month
pub by_month : (P : ℕ → Type 0) → P 1 → P 2 → P 3 → P 4 → P 5 → P 6 → P 7 → P 8 → P 9 → P 10 → P 11 → P 12 → (m : ℕ) → 1 ≤ m → m ≤ 12 → P m
by_month P a b c d e f g h i j k l zero p q = let z : ⊥ = omega arith in absurd z
by_month P a b c d e f g h i j k l (suc zero) p q = a
by_month P a b c d e f g h i j k l (suc (suc zero)) p q = b
by_month P a b c d e f g h i j k l (suc (suc (suc zero))) p q = c
by_month P a b c d e f g h i j k l (suc (suc (suc (suc zero)))) p q = d
by_month P a b c d e f g h i j k l (suc (suc (suc (suc (suc zero))))) p q = e
by_month P a b c d e f g h i j k l (suc (suc (suc (suc (suc (suc zero)))))) p q = f
by_month P a b c d e f g h i j k l (suc (suc (suc (suc (suc (suc (suc zero))))))) p q = g
by_month P a b c d e f g h i j k l (suc (suc (suc (suc (suc (suc (suc (suc zero)))))))) p q = h
by_month P a b c d e f g h i j k l (suc (suc (suc (suc (suc (suc (suc (suc (suc zero))))))))) p q = i
by_month P a b c d e f g h i j k l (suc (suc (suc (suc (suc (suc (suc (suc (suc (suc zero)))))))))) p q = j
by_month P a b c d e f g h i j k l (suc (suc (suc (suc (suc (suc (suc (suc (suc (suc (suc zero))))))))))) p q = k
by_month P a b c d e f g h i j k l (suc (suc (suc (suc (suc (suc (suc (suc (suc (suc (suc (suc zero)))))))))))) p q = l
by_month P a b c d e f g h i j k l (suc (suc (suc (suc (suc (suc (suc (suc (suc (suc (suc (suc (suc n))))))))))))) p q = let z : ⊥ = omega arith in absurd z

abbrev Long : ℕ → Type 0
Long n = (28 ≤ n) × (n ≤ 31)

february_long : (t : Bool) → Long (cond t 29 28)
february_long true = (omega arith, omega arith)
february_long false = (omega arith, omega arith)

-- a month has 28 to 31 days
pub month_long : (y m : ℕ) → 1 ≤ m → m ≤ 12 → Long (days_of y m)
unfolding days_of
month_long y =
    by_month (λ m. Long (days_of y m))
    (omega arith, omega arith) (february_long (is_leap y)) (omega arith, omega arith) (omega arith, omega arith)
    (omega arith, omega arith) (omega arith, omega arith) (omega arith, omega arith) (omega arith, omega arith)
    (omega arith, omega arith) (omega arith, omega arith) (omega arith, omega arith) (omega arith, omega arith)

-- as many days on within a month
pub within : (k y m d : ℕ) → d + k ≤ days_of y m → days_after k (record { day = d; month = m; year = y }) ≡ record { day = d + k; month = m; year = y }
unfolding days_after next_day
within zero y m d h = let n : d + 0 ≡ d = omega arith in rw n
within (suc k) y m d h =
    let g : d + k < days_of y m = omega arith in
    let n : d + k + 1 ≡ d + suc k = omega arith in
    ap next_day (within k y m d (omega arith)) ∙ rw (lt-ltb (d + k) (days_of y m) g, n)

-- behind the last day of a month
pub month_on : (y m n : ℕ) → n ≡ days_of y m → 1 ≤ n → days_after n (opening y m) ≡ opening (year_behind y m) (month_behind m)
unfolding days_after next_day
month_on y m zero e h = let z : ⊥ = omega arith in absurd z
month_on y m (suc k) e h =
    let g : days_of y m ≤ 1 + k = omega arith in
    ap next_day (within k y m 1 (omega arith)) ∙ rw (le-ltb (1 + k) (days_of y m) g)

-- ---- so many months

unfoldable days_in : ℕ → ℕ → ℕ → ℕ
days_in zero y m = 0
days_in (suc k) y m = days_in k (year_behind y m) (month_behind m) + days_of y m

unfoldable months_on : ℕ → ℕ → ℕ → Date
months_on zero y m = opening y m
months_on (suc k) y m = months_on k (year_behind y m) (month_behind m)

pub behind_least : (m : ℕ) → 1 ≤ month_behind m
behind_least m = by (ltb m 12)
  where
    by : (t : Bool) → 1 ≤ cond t (m + 1) 1
    by true = omega arith
    by false = omega arith

pub behind_most : (m : ℕ) → month_behind m ≤ 12
behind_most m = by (ltb m 12) refl
  where
    by : (t : Bool) → ltb m 12 ≡ t → cond t (m + 1) 1 ≤ 12
    by true e = omega (arith, ltb-true m 12 e)
    by false e = omega arith

pub behind_early : (y m : ℕ) → year_behind y m ≤ y + 1
behind_early y m = by (ltb m 12)
  where
    by : (t : Bool) → cond t y (y + 1) ≤ y + 1
    by true = omega arith
    by false = omega arith

months_on_lem : (k y m : ℕ) → 1 ≤ m → m ≤ 12 → days_after (days_in k y m) (opening y m) ≡ months_on k y m
unfolding days_in months_on days_after
months_on_lem zero y m g h = refl
months_on_lem (suc k) y m g h =
    after_more (days_in k (year_behind y m) (month_behind m)) (days_of y m) (opening y m)
    ∙ ap (days_after (days_in k (year_behind y m) (month_behind m))) (month_on y m (days_of y m) refl (omega (arith, month_long y m g h)))
    ∙ months_on_lem k (year_behind y m) (month_behind m) (behind_least m) (behind_most m)

-- ---- a year

abbrev Yearly : ℕ → ℕ → Type 0
Yearly y m = (months_on 12 y m ≡ opening (y + 1) m) × (days_in 12 y m ≡ year_from y m)

yearly : (y m : ℕ) → 1 ≤ m → m ≤ 12 → Yearly y m
unfolding months_on days_in year_from days_of
yearly y =
    by_month (Yearly y)
    (refl, omega arith) (refl, omega arith) (refl, omega arith) (refl, omega arith)
    (refl, omega arith) (refl, omega arith) (refl, omega arith) (refl, omega arith)
    (refl, omega arith) (refl, omega arith) (refl, omega arith) (refl, omega arith)

-- the same month a year later
pub year_on : (y m : ℕ) → 1 ≤ m → m ≤ 12 → days_after (year_from y m) (opening y m) ≡ opening (y + 1) m
year_on y m g h = let e = yearly y m g h in rw (← e.1) (months_on_lem 12 y m g h ∙ e.0)

-- ---- four centuries

-- the days of the years before a year, those of the leap years that are none taken off
abbrev whole : ℕ → ℕ
whole x = 365 * x + (x + 3) / 4 + (x + 399) / 400

abbrev none : ℕ → ℕ
none x = (x + 99) / 100

fourth : (x : ℕ) (t : Bool) → eqb (x % 4) 0 ≡ t → (x + 1 + 3) / 4 ≡ (x + 3) / 4 + cond t 1 0
fourth x true e = omega (arith, eqb-true (x % 4) 0 e)
fourth x false e = omega (arith, eqb-false (x % 4) 0 e)

hundredth : (x : ℕ) (t : Bool) → eqb (x % 100) 0 ≡ t → (x + 1 + 99) / 100 ≡ (x + 99) / 100 + cond t 1 0
hundredth x true e = omega (arith, eqb-true (x % 100) 0 e)
hundredth x false e = omega (arith, eqb-false (x % 100) 0 e)

last : (x : ℕ) (t : Bool) → eqb (x % 400) 0 ≡ t → (x + 1 + 399) / 400 ≡ (x + 399) / 400 + cond t 1 0
last x true e = omega (arith, eqb-true (x % 400) 0 e)
last x false e = omega (arith, eqb-false (x % 400) 0 e)

leap_count : (x : ℕ) → whole (x + 1) + none x ≡ whole x + none (x + 1) + (337 + days_of x 2)
unfolding days_of is_leap
leap_count x =
    let a = eqb (x % 400) 0 in
    let b = eqb (x % 100) 0 in
    let c = eqb (x % 4) 0 in
    let e = by a b c refl refl refl ((x + 3) / 4) ((x + 399) / 400) ((x + 99) / 100) in
    rw (fourth x c refl, hundredth x b refl, last x a refl) e
  where
    by : (a b c : Bool) → eqb (x % 400) 0 ≡ a → eqb (x % 100) 0 ≡ b → eqb (x % 4) 0 ≡ c → (f l h : ℕ)
        → 365 * (x + 1) + (f + cond c 1 0) + (l + cond a 1 0) + h ≡ 365 * x + f + l + (h + cond b 1 0) + (337 + cond (cond a true (cond b false c)) 29 28)
    by true true true p q r f l h = omega arith
    by true false c p q r f l h = let z : ⊥ = omega (arith, eqb-true (x % 400) 0 p, eqb-false (x % 100) 0 q) in absurd z
    by a true false p q r f l h = let z : ⊥ = omega (arith, eqb-true (x % 100) 0 q, eqb-false (x % 4) 0 r) in absurd z
    by false true true p q r f l h = omega arith
    by false false true p q r f l h = omega arith
    by false false false p q r f l h = omega arith

-- so many years
unfoldable years_days : ℕ → ℕ → ℕ → ℕ
years_days zero y m = 0
years_days (suc k) y m = year_from (y + k) m + years_days k y m

february_on : (y k m : ℕ) → february_from (y + k) m ≡ february_from y m + k
february_on y k m = by (leb m 2)
  where
    by : (t : Bool) → cond t (y + k) (y + k + 1) ≡ cond t y (y + 1) + k
    by true = refl
    by false = omega arith

summed : (x j f l h n : ℕ) → 365 * (x + j * 400) + (f + j * 100) + (l + j) + h ≡ 365 * x + f + l + (h + j * 4) + n → n ≡ j * 146097
summed x j f l h n e = omega arith

module _ (y m : ℕ) where
  years_on : (k : ℕ) → 1 ≤ m → m ≤ 12 → days_after (years_days k y m) (opening y m) ≡ opening (y + k) m
  unfolding years_days days_after
  years_on zero g h = let n : y + 0 ≡ y = omega arith in rw n
  years_on (suc k) g h =
      let n : y + k + 1 ≡ y + suc k = omega arith in
      after_more (year_from (y + k) m) (years_days k y m) (opening y m)
      ∙ ap (days_after (year_from (y + k) m)) (years_on k g h)
      ∙ rw n at (year_on (y + k) m g h)

  years_count : (k x : ℕ) → x ≡ february_from y m → whole (x + k) + none x ≡ whole x + none (x + k) + years_days k y m
  unfolding years_days year_from
  years_count zero x e = omega arith
  years_count (suc k) x e =
      let n : february_from (y + k) m ≡ x + k = february_on y k m ∙ ap (λ (z : ℕ). z + k) (sym e) in
      let s : x + suc k ≡ x + k + 1 = omega arith in
      rw (n, s) (omega (arith, years_count k x e, leap_count (x + k)))

  eras_days : (j : ℕ) → years_days (j * 400) y m ≡ j * 146097
  eras_days j =
      let x = february_from y m in
      let a : (x + j * 400 + 3) / 4 ≡ (x + 3) / 4 + j * 100 = omega arith in
      let b : (x + j * 400 + 99) / 100 ≡ (x + 99) / 100 + j * 4 = omega arith in
      let c : (x + j * 400 + 399) / 400 ≡ (x + 399) / 400 + j = omega arith in
      summed x j ((x + 3) / 4) ((x + 399) / 400) ((x + 99) / 100) (years_days (j * 400) y m) (rw (a, b, c) at (years_count (j * 400) x refl))

  -- four centuries have 146,097 days, from whichever month on
  pub eras_on : (n : ℕ) → 1 ≤ m → m ≤ 12 → days_after (n % 146097) (opening (y + n / 146097 * 400) m) ≡ days_after n (opening y m)
  eras_on n g h =
      let j = n / 146097 in
      let e : n % 146097 + years_days (j * 400) y m ≡ n = omega (arith, eras_days j) in
      ap (days_after (n % 146097)) (sym (years_on (j * 400) g h)) ∙ sym (after_more (n % 146097) (years_days (j * 400) y m) (opening y m)) ∙ rw e

-- a year that is some times 400 less has the same months
pub length_again : (y m : ℕ) → days_of (y % 400) m ≡ days_of y m
unfolding days_of is_leap
length_again y m =
    let a : y % 400 % 400 ≡ y % 400 = omega arith in
    let b : y % 400 % 100 ≡ y % 100 = omega arith in
    let c : y % 400 % 4 ≡ y % 4 = omega arith in
    rw (a, b, c)

-- ---- later is later

-- a date that there is
pub record Exists (d : Date) : Type 0 where
  pub month_least : 1 ≤ d.month
  pub month_most : d.month ≤ 12
  pub day_least : 1 ≤ d.day
  pub day_most : d.day ≤ days_of d.year d.month

-- only a month has days
month_from : (y m : ℕ) → 1 ≤ days_of y m → 1 ≤ m
unfolding days_of
month_from y zero h = let z : ⊥ = omega arith in absurd z
month_from y (suc m) h = omega arith

-- the next day is there, whatever date it is the next of
pub next_exists : (d : Date) → Exists (next_day d)
unfolding next_day
next_exists d = by (ltb d.day (days_of d.year d.month)) refl
  where
    by : (t : Bool) → ltb d.day (days_of d.year d.month) ≡ t
        → Exists (cond t (record { day = d.day + 1; month = d.month; year = d.year }) (opening (year_behind d.year d.month) (month_behind d.month)))
    by true e =
        let h = ltb-true d.day (days_of d.year d.month) e in
        let k : 1 ≤ days_of d.year d.month = omega arith in
        record { month_least = month_from d.year d.month k; month_most = days_month d.year d.month k; day_least = omega arith; day_most = omega arith }
    by false e =
        let long = month_long (year_behind d.year d.month) (month_behind d.month) (behind_least d.month) (behind_most d.month) in
        record { month_least = behind_least d.month; month_most = behind_most d.month; day_least = omega arith; day_most = omega arith }

pub after_exists : (n : ℕ) (d : Date) → Exists d → Exists (days_after n d)
unfolding days_after
after_exists zero d h = h
after_exists (suc n) d h = next_exists (days_after n d)

-- the next day has a greater number YYYYMMDD
pub next_later : (d : Date) → Exists d → rank d < rank (next_day d)
unfolding next_day
next_later d h = by (ltb d.day (days_of d.year d.month)) (ltb d.month 12) refl
  where
    most : days_of d.year d.month ≤ 31
    most = days_most d.year d.month

    by : (t u : Bool) → ltb d.month 12 ≡ u → rank d < rank (cond t (record { day = d.day + 1; month = d.month; year = d.year }) (opening (cond u d.year (d.year + 1)) (cond u (d.month + 1) 1)))
    by true u e = omega arith
    by false true e = omega (arith, h.day_most, most)
    by false false e = omega (arith, h.day_most, h.month_most, most)

pub never_less : (k a : ℕ) (d : Date) → Exists d → rank (days_after a d) ≤ rank (days_after (k + a) d)
unfolding days_after
never_less zero a d h = rw zero-add (omega arith)
never_less (suc k) a d h = rw suc-add (omega (arith, never_less k a d h, next_later (days_after (k + a) d) (after_exists (k + a) d h)))

-- more days later is later
pub later : (a b : ℕ) (d : Date) → Exists d → a < b → rank (days_after a d) < rank (days_after b d)
unfolding days_after
later a b d h l =
    let k = b - a - 1 in
    let e : suc (k + a) ≡ b = omega arith in
    rw (← e) (omega (arith, never_less k a d h, next_later (days_after (k + a) d) (after_exists (k + a) d h)))

-- ---- the steps of the code

module _ (y m : ℕ) (l : m < 12) where
  pub year_same : y ≡ year_behind y m
  year_same = rw (lt-ltb m 12 l)

  pub month_next : m + 1 ≡ month_behind m
  month_next = rw (lt-ltb m 12 l)

module _ (y m : ℕ) (l : 12 ≤ m) where
  pub year_next : y + 1 ≡ year_behind y m
  year_next = rw (le-ltb m 12 l)

  pub month_first : 1 ≡ month_behind m
  month_first = rw (le-ltb m 12 l)

-- n is the length of the month that was told
module _ (d : Date) (n : ℕ) (e : n ≡ days_of d.year d.month) where
  pub day_small : d.day < n → d.day < 31
  day_small l = omega (arith, days_most d.year d.month)

  pub day_on : d.day < n → record { day = d.day + 1; month = d.month; year = d.year } ≡ next_day d
  unfolding next_day
  day_on l = rw (lt-ltb d.day (days_of d.year d.month) (rw e at l))

  pub day_over : (y m : ℕ) → n ≤ d.day → y ≡ year_behind d.year d.month → m ≡ month_behind d.month → opening y m ≡ next_day d
  unfolding next_day
  day_over y m l p q = rw (p, q, le-ltb d.day (days_of d.year d.month) (rw e at l))

pub february_small : (y n : ℕ) → n ≡ days_of y 2 → n ≤ 31
february_small y n e = omega (arith, days_most y 2)

pub year_early : (y m n : ℕ) → n ≡ days_of y 2 → m ≤ 2 → 337 + n ≡ year_from y m
unfolding year_from
year_early y m n e l = rw (le-leb m 2 l, e)

pub year_late : (y m n : ℕ) → n ≡ days_of (y + 1) 2 → 2 < m → 337 + n ≡ year_from y m
unfolding year_from
year_late y m n e l = rw (lt-leb m 2 l, e)

pub year_long : (y m n : ℕ) → n ≡ year_from y m → (365 ≤ n) × (n ≤ 366)
unfolding year_from days_of
year_long y m n e = by (is_leap (february_from y m)) e
  where
    by : (t : Bool) → n ≡ 337 + cond t 29 28 → (365 ≤ n) × (n ≤ 366)
    by true e = (omega arith, omega arith)
    by false e = (omega arith, omega arith)

module _ (y m n left : ℕ) (g : 1 ≤ m) (h : m ≤ 12) (l : n ≤ left) where
  pub year_turn : n ≡ year_from y m → days_after (left - n) (opening (y + 1) m) ≡ days_after left (opening y m)
  year_turn e =
      let s : left - n + n ≡ left = omega arith in
      ap (days_after (left - n)) (sym (rw (← e) at (year_on y m g h))) ∙ sym (after_more (left - n) n (opening y m)) ∙ rw s

  pub month_turn : (y' m' : ℕ) → n ≡ days_of y m → y' ≡ year_behind y m → m' ≡ month_behind m → days_after (left - n) (opening y' m') ≡ days_after left (opening y m)
  month_turn y' m' e p q =
      let s : left - n + n ≡ left = omega arith in
      rw (p, q) (ap (days_after (left - n)) (sym (month_on y m n e (omega (arith, month_long y m g h)))) ∙ sym (after_more (left - n) n (opening y m)) ∙ rw s)

-- the day of the month that is left
pub days_left : (y m left n : ℕ) → n ≡ days_of y m → left < n → record { day = left + 1; month = m; year = y } ≡ days_after left (opening y m)
days_left y m left n e l =
    let s : left + 1 ≡ 1 + left = omega arith in
    rw s (sym (within left y m 1 (omega arith)))

-- behind the day after d
pub after_next : (d c : Date) (n : ℕ) → c ≡ next_day d → 1 ≤ n → days_after (c.day - 1 + (n - 1)) (opening c.year c.month) ≡ days_after n d
unfolding days_after
after_next d c n e h =
    let x : Exists c = rw e (next_exists d) in
    let p : c.day - 1 + (n - 1) ≡ n - 1 + (c.day - 1) = omega arith in
    let q : 1 + (c.day - 1) ≡ c.day = omega (arith, x.day_least) in
    let s : n - 1 + 1 ≡ n = omega arith in
    rw p (after_more (n - 1) (c.day - 1) (opening c.year c.month))
    ∙ ap (days_after (n - 1)) (rw q at (within (c.day - 1) c.year c.month 1 (omega (arith, x.day_least, x.day_most))) ∙ e)
    ∙ sym (after_more (n - 1) 1 d)
    ∙ rw s

pub next_year : (d c : Date) → c ≡ next_day d → c.year ≤ d.year + 1
unfolding next_day
next_year d c e = by (ltb d.day (days_of d.year d.month)) (ltb d.month 12) (ap (λ (x : Date). x.year) e)
  where
    by : (t u : Bool) → c.year ≡ (cond t (record { day = d.day + 1; month = d.month; year = d.year }) (opening (cond u d.year (d.year + 1)) (cond u (d.month + 1) 1))).year → c.year ≤ d.year + 1
    by true u e = omega arith
    by false true e = omega arith
    by false false e = omega arith

pub none_later : (d : Date) (n : ℕ) → n ≡ 0 → d ≡ days_after n d
unfolding days_after
none_later d n e = rw e

pub told_exists : (d c : Date) → c ≡ next_day d → Exists c
told_exists d c e = rw e (next_exists d)
