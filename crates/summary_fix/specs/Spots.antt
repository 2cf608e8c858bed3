-- Document 02, 'A summary beside each flight': what one fix has to tell, as plain counts, and as values of the code.
use Prim.Native.Char.{code}
use Rattle.std.specs.Prelude.{ℕ, Bool, true, cond, Option, Some, ◌≡◌, eqb, leb, ℤ, pos, neg_ℤ}
use Rattle.rules.specs.Fields.{is_either}
use Rattle.rules.specs.Fixes.{plain}
use Rattle.rules.specs.declared.FinePosition.{FinePosition}
use Rattle.rules.specs.declared.FineTime.{FineTime}
use Rattle.rules.specs.declared.Fix.{Fix}
use Rattle.rules.specs.declared.Height.{Height}
use Rattle.rules.specs.declared.Position.{Position}
use Rattle.byte_tens.specs.Tens.{few_of}
use Rattle.track_rules.specs.declared.Record.{Record}
use Rattle.summary_span.specs.Sums.{no_figure, figure_of, no_span}
use Rattle.summary_span.specs.declared.Figure.{Figure}
use Rattle.summary_span.specs.declared.Moment.{Moment}
use Rattle.summary_span.specs.declared.Span.{Span}
use Rattle.summary_span.specs.declared.Sum.{Sum}

-- ---- the numbers of a fix

-- "as signed plain counts (south and west negative)"
unfoldable pub signed_count : Position → ℤ
signed_count p = cond (is_either p.letter (code "S") (code "W")) (neg_ℤ (pos p.count)) (pos p.count)

-- "Only fixes marked A count for position"
abbrev pub is_marked : Fix → Bool
is_marked f = eqb f.validity (code "A")

-- ---- the same as values of the code

-- "plain seconds" and a plain position, of any count: of one with more than 4 decimals, which no line has, 4 are taken off
unfoldable pub taken_time : FineTime → ℕ
taken_time t = plain t.count (few_of t.decimals)

unfoldable pub taken_position : FinePosition → Position
taken_position p = record { count = plain p.count (few_of p.decimals); letter = p.letter }

-- where an i32 has it
unfoldable pub signed_figure : Position → Figure
signed_figure p = cond (leb p.count 2147483647) (record { value = signed_count p }) no_figure

abbrev pub height_figure : Height → Figure
height_figure h = record { value = h.metres }

-- of one number, or of none
unfoldable pub span_if : Bool → Figure → Option Span
span_if any z = cond any (Some (record { least = z; greatest = z })) no_span

abbrev pub moment_of : Record → Moment
moment_of r = record { day = figure_of r.day; seconds = figure_of (taken_time r.fix.time) }

unfoldable pub alone_of : Record → Sum
alone_of r = record {
  first = moment_of r;
  last = moment_of r;
  heights = span_if true (height_figure r.fix.pressure);
  lats = span_if (is_marked r.fix) (signed_figure (taken_position r.fix.lat));
  lons = span_if (is_marked r.fix) (signed_figure (taken_position r.fix.lon));
}

abbrev pub FixAlone : Record → Sum → Type 0
FixAlone r s = s ≡ alone_of r
