-- What the code tells of some fixes, one joined after the other, are the twelve numbers that the document asks for, where each of them fits a number of the list. Assumes nothing.
use Rattle.std.specs.Prelude.{Option, Some, None}
use Rattle.std.specs.Option.{is_some}
use Prim.Native.Nat.{ℕ, zero, suc, ◌-◌, ◌≤◌, ◌<◌}
use mathlib.Core.Bool.{Bool, true, false, cond}
use mathlib.Core.List.{List, [], ◌∷◌, map}
use mathlib.Core.Path.{◌≡◌, refl, sym, ap, subst, ◌∙◌}
use native.Mathlib.Omega.{arith}
use borrow.Author.Tests.{le-leb}
use lib.IntN.{ℤ, pos}
use lib.ListN.{length, get_or}
use Rattle.rules.specs.Choice.{Each}
use Rattle.rules.specs.Fixes.{plain, plain_time, plain_position, plain_lat, plain_lon}
use Rattle.rules.specs.declared.FinePosition.{FinePosition}
use Rattle.track_rules.specs.Track.{zero_record}
use Rattle.track_rules.specs.declared.Record.{Record}
use Rattle.summary_span.specs.Extremes.{greatest, least}
use Rattle.summary_span.specs.Sums.{figure_of, no_span, span_or_zero, joined_span, no_sum, merged, joined}
use Rattle.summary_span.specs.declared.Figure.{Figure}
use Rattle.summary_span.specs.declared.Moment.{Moment}
use Rattle.summary_span.specs.declared.Span.{Span}
use Rattle.summary_span.specs.declared.Sum.{Sum}
use Rattle.summary_span.proofs.Joining.{numbers, spanned, some_of, all_spanned}
use Rattle.summary_slots.specs.Slots.{flag_of, numbers_of}
use Rattle.summary_fix.specs.Spots.{taken_time, taken_position, signed_count, is_marked, signed_figure, height_figure, span_if, moment_of, alone_of}
use Rattle.summary_fix.proofs.Laws.{time_taken, position_taken}
use Rattle.summary_reckon.specs.Filled.{sum_over}
use Rattle.summary_reckon.specs.Summary.{last, heights, marked, one_if_any, told}

-- a fix whose numbers an i32 has, with the decimals that a line can have
pub record Fits (r : Record) : Type 0 where
  pub day : r.day ≤ 2147483647
  pub time : plain_time r.fix ≤ 2147483647
  pub time_few : r.fix.time.decimals ≤ 4
  pub lat : (plain_lat r.fix).count ≤ 2147483647
  pub lat_few : r.fix.lat.decimals ≤ 4
  pub lon : (plain_lon r.fix).count ≤ 2147483647
  pub lon_few : r.fix.lon.decimals ≤ 4

-- ---- the parts of what is told, each by itself

-- which fixes have a height, and which a position
abbrev all : Record → Bool
all r = true

abbrev some : Record → Bool
some r = is_marked r.fix

abbrev height : Record → Figure
height r = height_figure r.fix.pressure

abbrev lat : Record → Figure
lat r = signed_figure (taken_position r.fix.lat)

abbrev lon : Record → Figure
lon r = signed_figure (taken_position r.fix.lon)

-- the moment of the last of these, or the one before them
abbrev last_from : Moment → List Record → Moment
last_from m [] = m
last_from m (r ∷ rs) = last_from (moment_of r) rs

record Parts (s : Sum) (rs : List Record) (t : Sum) : Type 0 where
  pub first : t.first ≡ s.first
  pub last : t.last ≡ last_from s.last rs
  pub heights : t.heights ≡ spanned all height s.heights rs
  pub lats : t.lats ≡ spanned some lat s.lats rs
  pub lons : t.lons ≡ spanned some lon s.lons rs

-- behind a first fix
joined_some : (h : Option Span) (z : Span) → is_some (joined_span h (Some z)) ≡ true
unfolding joined_span
joined_some None z = refl
joined_some (Some y) z = refl

parts : (rs : List Record) (s : Sum) → is_some s.heights ≡ true → Parts s rs (sum_over s rs)
unfolding joined merged alone_of span_if
parts [] s e = record { first = refl; last = refl; heights = refl; lats = refl; lons = refl }
parts (r ∷ rs) s e = by (is_some s.heights) e refl (parts rs (merged s (alone_of r)) (joined_some s.heights (record { least = height r; greatest = height r })))
  where
    by : (x : Bool) → x ≡ true → is_some s.heights ≡ x → Parts (merged s (alone_of r)) rs (sum_over (merged s (alone_of r)) rs) → Parts s (r ∷ rs) (sum_over (joined s (alone_of r)) rs)
    by x e g p =
        let n : joined s (alone_of r) ≡ merged s (alone_of r) = ap (λ (b : Bool). cond b (merged s (alone_of r)) (alone_of r)) (g ∙ e) in
        subst (λ (t : Sum). Parts s (r ∷ rs) (sum_over t rs)) (sym n) (record { first = p.first; last = p.last; heights = p.heights; lats = p.lats; lons = p.lons })

-- of some fixes
all_parts : (r : Record) (rs : List Record) → Parts (alone_of r) rs (sum_over no_sum (r ∷ rs))
unfolding joined alone_of span_if
all_parts r rs = parts rs (alone_of r) refl

-- ---- numbers that fit

figure_fits : (n : ℕ) → n ≤ 2147483647 → (figure_of n).value ≡ pos n
unfolding figure_of
figure_fits n h = rw (le-leb n 2147483647 h)

seconds_fit : (r : Record) → Fits r → (figure_of (taken_time r.fix.time)).value ≡ pos (plain_time r.fix)
seconds_fit r f = ap (λ (n : ℕ). (figure_of n).value) (time_taken r.fix.time f.time_few) ∙ figure_fits (plain_time r.fix) f.time

signed_fits : (p : FinePosition) → p.decimals ≤ 4 → (plain_position p).count ≤ 2147483647 → (signed_figure (taken_position p)).value ≡ signed_count (plain_position p)
unfolding signed_figure
signed_fits p few h = rw (position_taken p few, le-leb (plain_position p).count 2147483647 h)

pub each_at : (P : Record → Type 0) (rs : List Record) (d : Record) (n : ℕ) → Each P rs → n < length rs → P (get_or rs n d)
each_at P [] d n h less = absurd (omega arith)
each_at P (r ∷ rs) d zero h less = h.0
each_at P (r ∷ rs) d (suc n) h less = each_at P rs d n h.1 (omega arith)

-- ---- each list of numbers

heights_are : (rs : List Record) → numbers all height rs ≡ heights rs
heights_are [] = refl
heights_are (r ∷ rs) = ap (λ (zs : List ℤ). r.fix.pressure.metres ∷ zs) (heights_are rs)

-- the positions, by latitude or by longitude
module _ (fine : Record → FinePosition) (few : (r : Record) → Fits r → (fine r).decimals ≤ 4) (fits : (r : Record) → Fits r → (plain_position (fine r)).count ≤ 2147483647) where
  abbrev figured : Record → Figure
  figured r = signed_figure (taken_position (fine r))

  abbrev counts : List Record → List ℤ
  counts rs = map (λ (r : Record). signed_count (plain_position (fine r))) (marked rs)

  positions_are : (rs : List Record) → Each Fits rs → numbers some figured rs ≡ counts rs
  positions_are [] h = refl
  positions_are (r ∷ rs) h = by (is_marked r.fix) refl (positions_are rs h.1)
    where
      by : (b : Bool) → is_marked r.fix ≡ b → numbers some figured rs ≡ counts rs → numbers some figured (r ∷ rs) ≡ counts (r ∷ rs)
      by true e later = rw (e, signed_fits (fine r) (few r h.0) (fits r h.0), later)
      by false e later = rw (e, later)

flag_is : (rs : List Record) → (flag_of (some_of some lat (numbers some lat rs))).value ≡ one_if_any (marked rs)
unfolding flag_of
flag_is [] = refl
flag_is (r ∷ rs) = by (is_marked r.fix) refl (flag_is rs)
  where
    by : (b : Bool) → is_marked r.fix ≡ b → (flag_of (some_of some lat (numbers some lat rs))).value ≡ one_if_any (marked rs)
        → (flag_of (some_of some lat (numbers some lat (r ∷ rs)))).value ≡ one_if_any (marked (r ∷ rs))
    by true e later = rw e
    by false e later = rw e later

-- ---- the last

last_is : (r : Record) (rs : List Record) → last_from (moment_of r) rs ≡ moment_of (last (r ∷ rs))
last_is r [] = let z : length (r ∷ []) - 1 ≡ 0 = omega arith in sym (ap (λ (n : ℕ). moment_of (get_or (r ∷ []) n zero_record)) z)
last_is r (q ∷ rs) =
    let a : length (q ∷ rs) - 1 ≡ length rs = omega arith in
    let b : length (r ∷ q ∷ rs) - 1 ≡ suc (length rs) = omega arith in
    last_is q rs ∙ ap (λ (n : ℕ). moment_of (get_or (q ∷ rs) n zero_record)) a ∙ sym (ap (λ (n : ℕ). moment_of (get_or (r ∷ q ∷ rs) n zero_record)) b)

-- ---- the twelve numbers

twelve_same : (a b c d e f g h i j k l a' b' c' d' e' f' g' h' i' j' k' l' : ℤ)
    → a ≡ a' → b ≡ b' → c ≡ c' → d ≡ d' → e ≡ e' → f ≡ f' → g ≡ g' → h ≡ h' → i ≡ i' → j ≡ j' → k ≡ k' → l ≡ l'
    → a ∷ b ∷ c ∷ d ∷ e ∷ f ∷ g ∷ h ∷ i ∷ j ∷ k ∷ l ∷ [] ≡ a' ∷ b' ∷ c' ∷ d' ∷ e' ∷ f' ∷ g' ∷ h' ∷ i' ∷ j' ∷ k' ∷ l' ∷ []
twelve_same a b c d e f g h i j k l a' b' c' d' e' f' g' h' i' j' k' l' p q r s t u v w x y z o =
    λ n. p n ∷ q n ∷ r n ∷ s n ∷ t n ∷ u n ∷ v n ∷ w n ∷ x n ∷ y n ∷ z n ∷ o n ∷ []

pub told_is : (rs : List Record) → Each Fits rs → length rs ≤ 2147483647 → numbers_of (length rs) (sum_over no_sum rs) ≡ told rs
unfolding numbers_of told figure_of flag_of plain alone_of span_if joined_span
told_is [] h n = refl
told_is (r ∷ rs) h n =
    let t = sum_over no_sum (r ∷ rs) in
    let p = all_parts r rs in
    let f = h.0 in
    let z = each_at Fits (r ∷ rs) zero_record (length (r ∷ rs) - 1) h (omega arith) in
    let heights_of = all_spanned all height (r ∷ rs) in
    let lats_of = all_spanned some lat (r ∷ rs) in
    let lons_of = all_spanned some lon (r ∷ rs) in
    let hs : t.heights ≡ spanned all height no_span (r ∷ rs) = p.heights ∙ heights_start r rs in
    let ys : t.lats ≡ spanned some lat no_span (r ∷ rs) = p.lats ∙ lats_start lat r rs in
    let xs : t.lons ≡ spanned some lon no_span (r ∷ rs) = p.lons ∙ lats_start lon r rs in
    let ys_are = positions_are (λ (r : Record). r.fix.lat) (λ r f. f.lat_few) (λ r f. f.lat) (r ∷ rs) h in
    let xs_are = positions_are (λ (r : Record). r.fix.lon) (λ r f. f.lon_few) (λ r f. f.lon) (r ∷ rs) h in
    let l : t.last ≡ moment_of (last (r ∷ rs)) = p.last ∙ last_is r rs in
    twelve_same _ _ _ _ _ _ _ _ _ _ _ _ _ _ _ _ _ _ _ _ _ _ _ _
    (figure_fits (length (r ∷ rs)) n)
    (ap (λ (m : Moment). m.day.value) p.first ∙ figure_fits r.day f.day)
    (ap (λ (m : Moment). m.seconds.value) p.first ∙ seconds_fit r f)
    (ap (λ (m : Moment). m.day.value) l ∙ figure_fits (last (r ∷ rs)).day z.day)
    (ap (λ (m : Moment). m.seconds.value) l ∙ seconds_fit (last (r ∷ rs)) z)
    (ap (λ (s : Option Span). (span_or_zero s).greatest.value) hs ∙ heights_of.greatest ∙ ap greatest (heights_are (r ∷ rs)))
    (ap (λ (s : Option Span). (span_or_zero s).least.value) hs ∙ heights_of.least ∙ ap least (heights_are (r ∷ rs)))
    (ap (λ (s : Option Span). (flag_of (is_some s)).value) ys ∙ ap (λ (b : Bool). (flag_of b).value) lats_of.any ∙ flag_is (r ∷ rs))
    (ap (λ (s : Option Span). (span_or_zero s).least.value) ys ∙ lats_of.least ∙ ap least ys_are)
    (ap (λ (s : Option Span). (span_or_zero s).greatest.value) ys ∙ lats_of.greatest ∙ ap greatest ys_are)
    (ap (λ (s : Option Span). (span_or_zero s).least.value) xs ∙ lons_of.least ∙ ap least xs_are)
    (ap (λ (s : Option Span). (span_or_zero s).greatest.value) xs ∙ lons_of.greatest ∙ ap greatest xs_are)
  where
    heights_start : (r : Record) (rs : List Record) → spanned all height (alone_of r).heights rs ≡ spanned all height no_span (r ∷ rs)
    heights_start r rs = refl

    lats_start : (v : Record → Figure) (r : Record) (rs : List Record) → spanned some v (span_if (some r) (v r)) rs ≡ spanned some v no_span (r ∷ rs)
    lats_start v r rs = ap (λ (s : Option Span). spanned some v s rs) (by (some r))
      where
        by : (b : Bool) → span_if b (v r) ≡ joined_span no_span (cond b (Some (record { least = v r; greatest = v r })) no_span)
        by true = refl
        by false = refl
