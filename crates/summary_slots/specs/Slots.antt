-- The twelve numbers of what is told of some fixes, put into a list, and the promise of that.
use Rattle.std.specs.Prelude.{ℕ, ◌+◌, Bool, cond, List, [], ◌∷◌, ◌≡◌, leb, ℤ, pos, length}
use Rattle.std.specs.Option.{is_some}
use Rattle.std.proofs.lemmas.List.Edits.{sets}
use Rattle.summary_span.specs.Sums.{no_figure, figure_of, span_or_zero}
use Rattle.summary_span.specs.declared.Figure.{Figure}
use Rattle.summary_span.specs.declared.Sum.{Sum}

unfoldable pub flag_of : Bool → Figure
flag_of t = cond t (record { value = pos 1 }) no_figure

-- the numbers of n fixes
unfoldable pub numbers_of : ℕ → Sum → List ℤ
numbers_of n s =
    (figure_of n).value ∷ s.first.day.value ∷ s.first.seconds.value ∷ s.last.day.value ∷ s.last.seconds.value
    ∷ (span_or_zero s.heights).greatest.value ∷ (span_or_zero s.heights).least.value ∷ (flag_of (is_some s.lats)).value
    ∷ (span_or_zero s.lats).least.value ∷ (span_or_zero s.lats).greatest.value ∷ (span_or_zero s.lons).least.value ∷ (span_or_zero s.lons).greatest.value ∷ []

-- these numbers at a place of a list, where they have room as a whole
unfoldable pub put_at : ℕ → List ℤ → List ℤ → List ℤ
put_at at numbers list = cond (leb (at + length numbers) (length list)) (sets list at numbers) list

abbrev pub SumPut : ℕ → ℕ → Sum → List ℤ → List ℤ → Type 0
SumPut at n s list after = after ≡ put_at at (numbers_of n s) list
