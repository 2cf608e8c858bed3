-- What is told of three parts of a flight is one thing, however they are joined; and what is told of spans joined one after the other is the least and the greatest of their
-- numbers. Assumes nothing.
use Rattle.std.specs.Prelude.{Option, Some, None}
use Rattle.std.specs.Option.{is_some}
use mathlib.Core.Bool.{Bool, true, false, cond}
use mathlib.Core.List.{List, [], ◌∷◌}
use mathlib.Core.Path.{◌≡◌, refl, ap}
use lib.IntN.{ℤ}
use Rattle.summary_span.specs.Extremes.{outmost_from, above, below, greatest, least}
use Rattle.summary_span.specs.Sums.{higher_of, lower_of, no_span, span_or_zero, joined_span, merged, joined}
use Rattle.summary_span.specs.declared.Figure.{Figure}
use Rattle.summary_span.specs.declared.Span.{Span}
use Rattle.summary_span.specs.declared.Sum.{Sum}
use Rattle.summary_span.proofs.Outmost.{outer_thrice, upwards, downwards}

-- ---- three spans

abbrev figured : ℤ → Figure
figured z = record { value = z }

higher_thrice : (a b c : Figure) → higher_of (higher_of a b) c ≡ higher_of a (higher_of b c)
unfolding higher_of
higher_thrice a b c = ap figured (outer_thrice above upwards a.value b.value c.value)

lower_thrice : (a b c : Figure) → lower_of (lower_of a b) c ≡ lower_of a (lower_of b c)
unfolding lower_of
lower_thrice a b c = ap figured (outer_thrice below downwards a.value b.value c.value)

span_thrice : (a b c : Option Span) → joined_span (joined_span a b) c ≡ joined_span a (joined_span b c)
unfolding joined_span
span_thrice None b c = refl
span_thrice (Some a) None c = refl
span_thrice (Some a) (Some b) None = refl
span_thrice (Some a) (Some b) (Some c) = rw (lower_thrice a.least b.least c.least, higher_thrice a.greatest b.greatest c.greatest)

-- ---- three sums

abbrev sum : Option Span → Sum → Sum
sum heights s = record { first = s.first; last = s.last; heights = heights; lats = s.lats; lons = s.lons }

pub joined_thrice : (a b c : Sum) → joined (joined a b) c ≡ joined a (joined b c)
unfolding joined merged joined_span
joined_thrice a b c = by a.heights b.heights c.heights
  where
    by : (x y z : Option Span) → joined (joined (sum x a) (sum y b)) (sum z c) ≡ joined (sum x a) (joined (sum y b) (sum z c))
    by x y None = refl
    by x None (Some z) = refl
    by None (Some y) (Some z) = refl
    by (Some x) (Some y) (Some z) = merged_thrice (sum (Some x) a) (sum (Some y) b) (sum (Some z) c)
      where
        merged_thrice : (a b c : Sum) → merged (merged a b) c ≡ merged a (merged b c)
        merged_thrice a b c =
            let h = span_thrice a.heights b.heights c.heights in
            let y = span_thrice a.lats b.lats c.lats in
            let x = span_thrice a.lons b.lons c.lons in
            λ i. record { first = a.first; last = c.last; heights = h i; lats = y i; lons = x i }

-- ---- spans of one number each, or of none

module _ {A : Type 0} (counts : A → Bool) (figure : A → Figure) where
  -- the numbers that count
  abbrev pub numbers : List A → List ℤ
  numbers [] = []
  numbers (x ∷ xs) = cond (counts x) ((figure x).value ∷ numbers xs) (numbers xs)

  abbrev pub span_of : A → Option Span
  span_of x = cond (counts x) (Some (record { least = figure x; greatest = figure x })) no_span

  abbrev pub spanned : Option Span → List A → Option Span
  spanned s [] = s
  spanned s (x ∷ xs) = spanned (joined_span s (span_of x)) xs

  -- what a span tells of some numbers; 0 where there is none
  pub record Spans (s : Option Span) (some : Bool) (l g : ℤ) : Type 0 where
    pub any : is_some s ≡ some
    pub least : (span_or_zero s).least.value ≡ l
    pub greatest : (span_or_zero s).greatest.value ≡ g

  further : (s : Span) (xs : List A) → Spans (spanned (Some s) xs) true (outmost_from below s.least.value (numbers xs)) (outmost_from above s.greatest.value (numbers xs))
  unfolding joined_span lower_of higher_of
  further s [] = record { any = refl; least = refl; greatest = refl }
  further s (x ∷ xs) = by (counts x) refl (λ t. further t xs)
    where
      by : (b : Bool) → counts x ≡ b
          → ((t : Span) → Spans (spanned (Some t) xs) true (outmost_from below t.least.value (numbers xs)) (outmost_from above t.greatest.value (numbers xs)))
          → Spans (spanned (Some s) (x ∷ xs)) true (outmost_from below s.least.value (numbers (x ∷ xs))) (outmost_from above s.greatest.value (numbers (x ∷ xs)))
      by true c later = rw c (later (record { least = lower_of s.least (figure x); greatest = higher_of s.greatest (figure x) }))
      by false c later = rw c (later s)

  -- some or none
  abbrev pub some_of : List ℤ → Bool
  some_of [] = false
  some_of (z ∷ zs) = true

  pub all_spanned : (xs : List A) → Spans (spanned no_span xs) (some_of (numbers xs)) (least (numbers xs)) (greatest (numbers xs))
  unfolding joined_span
  all_spanned [] = record { any = refl; least = refl; greatest = refl }
  all_spanned (x ∷ xs) = by (counts x) refl (all_spanned xs)
    where
      by : (b : Bool) → counts x ≡ b → Spans (spanned no_span xs) (some_of (numbers xs)) (least (numbers xs)) (greatest (numbers xs))
          → Spans (spanned no_span (x ∷ xs)) (some_of (numbers (x ∷ xs))) (least (numbers (x ∷ xs))) (greatest (numbers (x ∷ xs)))
      by true c later = rw c (further (record { least = figure x; greatest = figure x }) xs)
      by false c later = rw c later
