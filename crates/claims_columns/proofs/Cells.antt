-- The number at a row and a column is what the look gives in the reading of that row's line. Assumes nothing.
use Rattle.std.specs.Prelude.{None, Option, Some}
use Prim.Native.Nat.{ℕ, zero, suc, ◌+◌, ◌*◌, ◌<◌}
use mathlib.Core.Bool.{Bool, true, false, cond}
use mathlib.Core.List.{List, [], ◌∷◌, ◌++◌, append_assoc}
use mathlib.Core.Path.{◌≡◌, refl}
use native.Mathlib.Nat.{suc-mul, zero-mul}
use native.Mathlib.Omega.{arith}
use borrow.Author.Tests.{eqb-true}
use lib.Dec.{eqb}
use lib.IntN.{ℤ, pos}
use lib.ListN.{length, get_or}
use lib.Seq.{get_or-append-add}
use Rattle.rules.specs.Choice.{given, Each}
use Rattle.rules.specs.Families.{line_letter, layout_of}
use Rattle.rules.specs.declared.Span.{Span}
use Rattle.rules.specs.Layouts.{look, carries, column_text}
use Rattle.rules.specs.Listed.{packed_of}
use Rattle.rules.specs.Looks.{look_number}
use Rattle.rules.specs.Numbers.{whole_of}
use Rattle.rules.specs.Refusals.{says, no, number}
use Rattle.rules.specs.Split.{Lines, end, broken, line}
use Rattle.rules.specs.declared.Family.{Family}
use Rattle.rules.specs.declared.Layout.{Layout}
use Rattle.rules.specs.declared.Layouts.{Layouts}
use Rattle.rules.specs.declared.Reason.TheVariants as reason
use Rattle.rules.specs.declared.Signed.{Signed}
use Rattle.rules.proofs.Inverse.{and_inv, false_true}
use Rattle.rules_laws.proofs.Splitting.{texts_of}
use Rattle.rules_sound.proofs.Looked.{look_there}
use Rattle.grammar.specs.Grammar.{beginning}
use Rattle.grammar.specs.Readings.{ReadsColumned, ReadsLine}
use Rattle.columns_asked.specs.Asks.{are_carried}
use Rattle.columns.specs.Columns.{cell_said, number_in, row_in, rows_in}
use Rattle.columns.proofs.Columning.{reads_so, entries_so, fits_by, row_wide}
use Rattle.claims_columns.specs.Barogram.{of_family, IsCell, is_number, is_marked}

module _ (g : Family) (layout : Layout) (t : List ℕ) (r : ReadsColumned g layout t) where
  -- what the look says of a column that the layout has
  said : (name : List ℕ) (s : Span) → look layout (packed_of name) ≡ Some s → look_number t layout name ≡ given (whole_of (column_text t s)) (no reason.NotNumber 0) λ z. says z
  unfolding look_number
  said name s e = rw (look_there t layout name (fits_by layout t (packed_of name) s e (entries_so g layout t r)), e)

  by_whole : (name : List ℕ) (o : Option Signed) → look_number t layout name ≡ given o (no reason.NotNumber 0) (λ z. says z) → IsCell g layout t name (number_in (look_number t layout name))
  unfolding number
  by_whole name (Some z) p = rw p (is_number (reads_so g layout t r).0 z (reads_so g layout t r).1 p)
  by_whole name None p = rw p (is_marked (reads_so g layout t r).0 (reads_so g layout t r).1 p)

  -- one cell
  cell_so : (name : List ℕ) (s : Span) → look layout (packed_of name) ≡ Some s → IsCell g layout t name (number_in (cell_said g layout t name))
  cell_so name s e = rw (reads_so g layout t r).1 (by_whole name (whole_of (column_text t s)) (said name s e))

  carried_so : (name : List ℕ) (o : Option Span) → look layout (packed_of name) ≡ o → carries layout (packed_of name) ≡ true → IsCell g layout t name (number_in (cell_said g layout t name))
  unfolding carries
  carried_so name (Some s) q c = cell_so name s q
  carried_so name None q c = absurd (false_true (rw q at c))

  -- the numbers of a row, whatever stands behind them
  row_cells : (names : List (List ℕ)) (tail : List ℤ) (c : ℕ) → are_carried layout names ≡ true → c < length names → IsCell g layout t (get_or names c []) (get_or (row_in g layout names t ++ tail) c (pos 0))
  unfolding are_carried row_in
  row_cells [] tail c e h = absurd (omega arith)
  row_cells (name ∷ names) tail zero e h = carried_so name (look layout (packed_of name)) refl (and_inv (carries layout (packed_of name)) (are_carried layout names) e).0
  row_cells (name ∷ names) tail (suc c) e h = row_cells names tail c (and_inv (carries layout (packed_of name)) (are_carried layout names) e).1 (omega arith)

module _ (g : Family) (ls : Layouts) (names : List (List ℕ)) (carried : are_carried (layout_of g ls) names ≡ true) (c : ℕ) (h : c < length names) where
  abbrev layout : Layout
  layout = layout_of g ls

  abbrev Cell : Lines → List ℤ → ℕ → Type 0
  Cell k tail i = IsCell g layout (get_or (of_family g (texts_of k)) i []) (get_or names c []) (get_or (rows_in g layout names k ++ tail) (i * length names + c) (pos 0))

  -- the numbers of all rows
  pub rows_cells : (k : Lines) (tail : List ℤ) (i : ℕ) → Each (ReadsLine ls) (texts_of k) → i < beginning (line_letter g) (texts_of k) → Cell k tail i
  unfolding rows_in of_family beginning
  rows_cells end tail i r b = absurd (omega arith)
  rows_cells (broken n) tail i r b = absurd (omega arith)
  rows_cells (line t rest) tail i r b = by (eqb (get_or t 0 0) (line_letter g)) refl i b (λ j q. rows_cells rest tail j r.1 q)
    where
      by : (x : Bool) → eqb (get_or t 0 0) (line_letter g) ≡ x → (i : ℕ) → i < cond x 1 0 + beginning (line_letter g) (texts_of rest) → ((j : ℕ) → j < beginning (line_letter g) (texts_of rest) → Cell rest tail j)
          → IsCell g layout (get_or (cond x (t ∷ of_family g (texts_of rest)) (of_family g (texts_of rest))) i []) (get_or names c [])
          (get_or (cond x (row_in g layout names t ++ rows_in g layout names rest) (rows_in g layout names rest) ++ tail) (i * length names + c) (pos 0))
      by false e i b later = later i (omega arith)
      by true e zero b later =
          let x : ReadsColumned g layout t = r.0.columned g (eqb-true (get_or t 0 0) (line_letter g) e) in
          let m : zero * length names + c ≡ c = omega (arith, zero-mul (length names)) in
          rw (m, append_assoc (row_in g layout names t) (rows_in g layout names rest) tail) (row_cells g layout t x names (rows_in g layout names rest ++ tail) c carried h)
      by true e (suc j) b later =
          let m : suc j * length names + c ≡ length (row_in g layout names t) + (j * length names + c) = omega (arith, suc-mul j (length names), row_wide g layout names t) in
          let n = get_or-append-add (row_in g layout names t) (rows_in g layout names rest ++ tail) (j * length names + c) (pos 0) in
          rw (m, append_assoc (row_in g layout names t) (rows_in g layout names rest) tail, n) (later j (omega arith))
