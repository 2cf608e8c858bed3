-- Plain counts by few decimals; the three ways out of a signed count: below zero, not below it, and too great a count; and what is told of one fix, put together. Assumes nothing.
use Rattle.std.specs.Prelude.{Option}
use Rattle.std.specs.Bool.{then_some}
use Prim.Native.Char.{code}
use Prim.Native.Nat.{ℕ, ◌/◌, ◌≤◌, ◌<◌}
use mathlib.Core.Bool.{Bool, true, false}
use mathlib.Core.Path.{◌≡◌, refl, sym, ap, ◌∙◌}
use borrow.Author.Tests.{le-leb, lt-leb}
use lib.IntN.{pos, neg_ℤ}
use Rattle.rules.specs.Fields.{is_either}
use Rattle.rules.specs.Fixes.{plain, plain_position}
use Rattle.summary_span.specs.Sums.{figure_of}
use Rattle.rules.specs.declared.FinePosition.{FinePosition}
use Rattle.rules.specs.declared.FineTime.{FineTime}
use Rattle.rules.specs.declared.Position.{Position}
use Rattle.byte_tens.specs.Tens.{power_of}
use Rattle.byte_tens.proofs.Laws.{few_all}
use Rattle.track_rules.specs.declared.Record.{Record}
use Rattle.summary_span.specs.declared.Figure.{Figure}
use Rattle.summary_span.specs.declared.Span.{Span}
use Rattle.summary_span.specs.declared.Sum.{Sum}
use Rattle.summary_fix.specs.Spots.{taken_time, taken_position, is_marked, signed_count, signed_figure, height_figure, span_if, alone_of}

-- ---- plain counts

pub time_divided : (t : FineTime) (p : ℕ) → p ≡ power_of t.decimals → t.count / p ≡ taken_time t
unfolding taken_time plain power_of
time_divided t p e = ap (λ (n : ℕ). t.count / n) e

pub position_divided : (p : FinePosition) (n : ℕ) → n ≡ power_of p.decimals → ◌≡◌ {A = Position} (record { count = p.count / n; letter = p.letter }) (taken_position p)
unfolding taken_position plain power_of
position_divided p n e = ap (λ (n : ℕ). record { count = p.count / n; letter = p.letter }) e

-- with the decimals that a line can have they are the rules' plain counts
pub time_taken : (t : FineTime) → t.decimals ≤ 4 → taken_time t ≡ plain t.count t.decimals
unfolding taken_time
time_taken t h = ap (plain t.count) (sym (few_all t.decimals h))

pub position_taken : (p : FinePosition) → p.decimals ≤ 4 → taken_position p ≡ plain_position p
unfolding taken_position plain_position
position_taken p h = ap (λ (n : ℕ). record { count = plain p.count n; letter = p.letter }) (sym (few_all p.decimals h))

-- ---- signed counts

module _ (p : Position) where
  module _ (h : p.count ≤ 2147483647) (b : Bool) (e : b ≡ is_either p.letter (code "S") (code "W")) where
    pub signed_below : (r : Figure) → b ≡ true → r ≡ record { value = neg_ℤ (pos p.count) } → r ≡ signed_figure p
    unfolding signed_figure signed_count
    signed_below r g f = f ∙ rw (le-leb p.count 2147483647 h, ← e, g)

    pub signed_above : (r : Figure) → b ≡ false → r ≡ figure_of p.count → r ≡ signed_figure p
    unfolding signed_figure signed_count figure_of
    signed_above r g f = f ∙ rw (le-leb p.count 2147483647 h, ← e, g)

  pub signed_none : (r : Figure) → 2147483647 < p.count → r ≡ figure_of p.count → r ≡ signed_figure p
  unfolding signed_figure figure_of
  signed_none r h f = f ∙ rw (lt-leb p.count 2147483647 h)

pub span_told : (b : Bool) (z : Figure) → then_some b (record { least = z; greatest = z }) ≡ span_if b z
unfolding span_if
span_told true z = refl
span_told false z = refl

-- ---- what is told of one fix, from its parts

pub alone_is : (r : Record) (day seconds h a b : Figure) (t : ℕ) (heights lats lons : Option Span) (lat lon : Position) → day ≡ figure_of r.day → t ≡ taken_time r.fix.time → seconds ≡ figure_of t
    → h ≡ height_figure r.fix.pressure → heights ≡ span_if true h → lat ≡ taken_position r.fix.lat → a ≡ signed_figure lat → lats ≡ span_if (is_marked r.fix) a → lon ≡ taken_position r.fix.lon
    → b ≡ signed_figure lon → lons ≡ span_if (is_marked r.fix) b
    → ◌≡◌ {A = Sum} (record { first = record { day = day; seconds = seconds }; last = record { day = day; seconds = seconds }; heights = heights; lats = lats; lons = lons }) (alone_of r)
unfolding alone_of
alone_is r day seconds h a b t heights lats lons lat lon e f g i j k l m n o p = rw (p, o, n, m, l, k, j, i, g, f, e)
