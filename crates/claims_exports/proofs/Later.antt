-- Dates of a file's days: its own date is one that there is, so more days later is later; and four centuries on, the calendar is the same. Assumes nothing.
use Prim.Native.Nat.{ℕ, zero, suc, ◌+◌, ◌-◌, ◌*◌, ◌/◌, ◌%◌, ◌≤◌, ◌<◌}
use mathlib.Core.Bool.{true}
use mathlib.Core.Path.{◌≡◌, sym, ap, ◌∙◌}
use native.Mathlib.Omega.{arith}
use Rattle.rules.specs.Fields.{days_of}
use Rattle.rules.specs.Limits.{is_date}
use Rattle.rules.specs.declared.Date.{Date}
use Rattle.rules_trips.proofs.Dates.{days_most, date_within}
use Rattle.text_calendar.specs.Calendar.{opening, days_after, rank}
use Rattle.text_calendar.proofs.Laws.{Exists, after_more, within, eras_on, length_again, later}

there : (y m d : ℕ) → 1 ≤ d → d ≤ days_of y m → 1 ≤ m
unfolding days_of
there y zero d g h = let z : ⊥ = omega arith in absurd z
there y (suc m) d g h = omega arith

-- the date of a file is one that there is
pub file_exists : (d : Date) → is_date d ≡ true → Exists d
file_exists d e =
    let w = date_within d e in
    record { month_least = there d.year d.month d.day w.low w.high; month_most = w.months; day_least = w.low; day_most = w.high }

-- the numbers YYYYMMDD of a file's days go up with the days
pub file_later : (d : Date) (a b : ℕ) → is_date d ≡ true → a < b → rank (days_after a d) < rank (days_after b d)
file_later d a b e h = later a b d (file_exists d e) h

-- 146,097 days later is the same day, four centuries on
pub era_later : (d : Date) → Exists d → days_after 146097 d ≡ record { day = d.day; month = d.month; year = d.year + 400 }
era_later d x =
    let y = d.year in
    let m = d.month in
    let k = d.day - 1 in
    let one : 1 + k ≡ d.day = omega (arith, x.day_least) in
    let rest : (146097 + k) % 146097 ≡ k = omega (arith, small) in
    let times : (146097 + k) / 146097 ≡ 1 = omega (arith, small) in
    let same : days_of (y + 400) m ≡ days_of y m = again y m in
    let here : days_after k (opening y m) ≡ d = rw one at (within k y m 1 (omega (arith, x.day_most))) in
    let on : days_after k (opening (y + 1 * 400) m) ≡ days_after (146097 + k) (opening y m) = rw (rest, times) at (eras_on y m (146097 + k) x.month_least x.month_most) in
    ap (days_after 146097) (sym here)
    ∙ sym (after_more 146097 k (opening y m))
    ∙ sym on
    ∙ rw one at (within k (y + 400) m 1 (omega (arith, x.day_most, same)))
  where
    small : d.day - 1 < 146097
    small = omega (arith, x.day_most, days_most d.year d.month)

    again : (y m : ℕ) → days_of (y + 400) m ≡ days_of y m
    again y m =
        let r : (y + 400) % 400 ≡ y % 400 = omega arith in
        sym (length_again (y + 400) m) ∙ rw r (length_again y m)
