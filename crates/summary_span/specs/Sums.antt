-- What is told of some fixes as values of the code, that of two parts of a flight joined, and the promises of this crate.
use Rattle.std.specs.Prelude.{ℕ, cond, ◌≡◌, leb, pos, Option, Some, None}
use Rattle.std.specs.Option.{is_some, unwrap_or}
use Rattle.summary_span.specs.Extremes.{outer, above, below}
use Rattle.summary_span.specs.declared.Figure.{Figure}
use Rattle.summary_span.specs.declared.Moment.{Moment}
use Rattle.summary_span.specs.declared.Span.{Span}
use Rattle.summary_span.specs.declared.Sum.{Sum}

abbrev pub no_figure : Figure
no_figure = record { value = pos 0 }

-- a number that an i32 has, and 0 for any other
unfoldable pub figure_of : ℕ → Figure
figure_of n = cond (leb n 2147483647) (record { value = pos n }) no_figure

unfoldable pub higher_of : Figure → Figure → Figure
higher_of a b = record { value = outer above a.value b.value }

unfoldable pub lower_of : Figure → Figure → Figure
lower_of a b = record { value = outer below a.value b.value }

abbrev pub no_span : Option Span
no_span = None

-- "a number with nothing to tell is 0"
abbrev pub span_or_zero : Option Span → Span
span_or_zero s = unwrap_or s (record { least = no_figure; greatest = no_figure })

-- the least and the greatest of the numbers of both
unfoldable pub joined_span : Option Span → Option Span → Option Span
joined_span None b = b
joined_span (Some a) None = Some a
joined_span (Some a) (Some b) = Some (record { least = lower_of a.least b.least; greatest = higher_of a.greatest b.greatest })

abbrev pub no_moment : Moment
no_moment = record { day = no_figure; seconds = no_figure }

abbrev pub no_sum : Sum
no_sum = record { first = no_moment; last = no_moment; heights = no_span; lats = no_span; lons = no_span }

-- of two that each have a fix
unfoldable pub merged : Sum → Sum → Sum
merged a b = record {
  first = a.first;
  last = b.last;
  heights = joined_span a.heights b.heights;
  lats = joined_span a.lats b.lats;
  lons = joined_span a.lons b.lons;
}

-- of any two
unfoldable pub joined : Sum → Sum → Sum
joined a b = cond (is_some b.heights) (cond (is_some a.heights) (merged a b) b) a

-- ---- promises

abbrev pub FigureGiven : ℕ → Figure → Type 0
FigureGiven n r = r ≡ figure_of n

abbrev pub NothingTold : Sum → Type 0
NothingTold r = r ≡ no_sum

abbrev pub SumsJoined : Sum → Sum → Sum → Type 0
SumsJoined a b r = r ≡ joined a b
