-- The columns of two files that are the same but for their notes. Assumes nothing.
use Rattle.std.specs.Prelude.{None, Option, Some}
use Prim.Native.Nat.{ℕ}
use Prim.Native.Char.{code}
use mathlib.Core.List.{List}
use mathlib.Core.Path.{◌≡◌, refl, sym, ◌∙◌, ap}
use native.Mathlib.Omega.{arith}
use lib.IntN.{ℤ}
use Rattle.rules.specs.Choice.{given}
use Rattle.rules.specs.Families.{line_letter, count_of, family_of}
use Rattle.rules.specs.Refusals.{Said, says, refuses, no}
use Rattle.rules.specs.Split.{lines_of}
use Rattle.rules.specs.declared.Family.{Family}
use Rattle.rules.specs.declared.Flight.{Flight}
use Rattle.rules.specs.declared.Layout.{Layout}
use Rattle.rules.specs.declared.Reason.TheVariants.{BadValue}
use Rattle.rules.specs.declared.Seal.{Seal}
use Rattle.rules_sound.proofs.Families.{every}
use Rattle.grammar.specs.Coming.{those}
use Rattle.columns.specs.Columns.{row_in, rows_in, Grid, grid_room, grid_in, grid_of, lines_said, numbers_in}
use Rattle.claims_notes.specs.Notes.{its_lines, ButForNotes, NothingChanged}
use Rattle.claims_notes.proofs.Notes.{notes_change_nothing}
use Rattle.claims_notes.proofs.Tracks.{usually_accepted}
use Rattle.claims_lasting.specs.Lasting.{SameColumns}
use Rattle.claims_lasting.proofs.Rows.{joined, rows_those, Alike, columns_by}

-- what is asked of a file is told by its layouts and by its counts of lines
grid_same : (f g : Flight) → g.layouts ≡ f.layouts → ((x : Family) → count_of x g.counts ≡ count_of x f.counts) → (letter : ℕ) (codes : List ℕ) (room : ℕ)
    → grid_of g letter codes room ≡ grid_of f letter codes room
unfolding grid_of grid_in grid_room
grid_same f g e h letter codes room = by (family_of letter)
  where
    by : (o : Option Family) → (given o (no BadValue 0) λ x. grid_in g x codes room) ≡ given o (no BadValue 0) λ x. grid_in f x codes room
    by None = refl
    by (Some x) = rw (e, h x)

module _ (file : List ℕ) (f : Flight) (other : List ℕ) (g : Flight) (w : NothingChanged file f other g) where
  -- no line with columns is an L line, so they are the same in both
  lines_same : (x : Family) → those (line_letter x) (its_lines other) ≡ those (line_letter x) (its_lines file)
  lines_same =
      every (λ x. those (line_letter x) (its_lines other) ≡ those (line_letter x) (its_lines file)) (w.kinds (code "B") (λ e. omega (arith, e))) (w.kinds (code "K") (λ e. omega (arith, e)))
      (w.kinds (code "N") (λ e. omega (arith, e)))

  rows_same : (x : Family) (layout : Layout) (names : List (List ℕ)) → rows_in x layout names (lines_of other) ≡ rows_in x layout names (lines_of file)
  rows_same x layout names =
      rows_those x layout names (lines_of other) ∙ ap (joined (row_in x layout names)) (lines_same x) ∙ sym (rows_those x layout names (lines_of file))

  numbers_same : (codes : List ℕ) (s : Said Grid) → numbers_in other codes s ≡ numbers_in file codes s
  numbers_same codes (says a) = rows_same a.family a.layout _
  numbers_same codes (refuses n l b) = refl

  pub grids_alike : (letter : ℕ) (codes : List ℕ) (room : ℕ) → Alike file other codes (grid_of f letter codes room) (grid_of g letter codes room)
  grids_alike letter codes room =
      let e = grid_same f g w.layouts w.counts letter codes room in
      (ap lines_said e, ap (numbers_in other codes) e ∙ numbers_same codes (grid_of f letter codes room))

pub noted : (seal : Seal) (file : List ℕ) (f : Flight) (other : List ℕ) (g : Flight) → ButForNotes seal file f other g → (letter : ℕ) (codes : List ℕ) (list : List ℤ) → SameColumns file other letter codes list
noted seal file f other g w letter codes list =
    let p = usually_accepted seal file w.room f w.accepted in
    let q = usually_accepted seal other w.room' g w.accepted_too in
    columns_by file other f g p q letter codes list (grids_alike file f other g (notes_change_nothing seal file f other g w) letter codes _)
