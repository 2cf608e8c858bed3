-- The columns of a file and of one with added columns: where the codes are old ones, each row is the old one. Assumes nothing.
use Rattle.std.specs.Prelude.{None, Option, Some}
use Prim.Native.Nat.{ℕ, ◌*◌, ◌/◌}
use mathlib.Core.Bool.{Bool, true, false}
use mathlib.Core.List.{List, [], ◌∷◌}
use mathlib.Core.Path.{◌≡◌, refl, sym, ◌∙◌, ap}
use native.Mathlib.Omega.{arith}
use lib.Dec.{leb}
use lib.ListN.{length}
use Rattle.rules.specs.Choice.{given, need}
use Rattle.rules.specs.Families.{layout_of, count_of, family_of}
use Rattle.rules.specs.Files.{verdict}
use Rattle.rules.specs.Layouts.{carries}
use Rattle.rules.specs.Listed.{packed_of}
use Rattle.rules.specs.Refusals.{Said, says, no, and_then}
use Rattle.rules.specs.Split.{lines_of}
use Rattle.rules.specs.declared.Family.{Family}
use Rattle.rules.specs.declared.Flight.{Flight}
use Rattle.rules.specs.declared.Layout.{Layout}
use Rattle.rules.specs.declared.Reason.TheVariants.{BadValue, NoRoom}
use Rattle.rules.proofs.Inverse.{and_inv}
use Rattle.rules_laws.proofs.Counted.{family_counted}
use Rattle.grammar_wider.specs.Before.{lines_of_family, line_of, AsBefore, LayoutsAsBefore}
use Rattle.grammar_wider.specs.Wider.{Extends}
use Rattle.grammar_wider.proofs.Kept.{family_tallied, carried}
use Rattle.columns_asked.specs.Asks.{names_of, are_codes, are_carried, places_of, places_said, asked_said}
use Rattle.columns.specs.Columns.{columns_seal, row_in, rows_in, Grid, grid_room, grid_in, grid_of}
use Rattle.claims_lasting.specs.Lasting.{OldCodes}
use Rattle.claims_lasting.proofs.Rows.{joined, rows_those, family_those, joined_same, Alike}

-- ---- one line

-- a code that the old layout has is looked for in either line alike
row_before : (g : Family) (old new : Layout) (l l' : List ℕ) → AsBefore g old new l l' → (names : List (List ℕ)) → are_carried old names ≡ true → row_in g new names l' ≡ row_in g old names l
unfolding row_in are_carried
row_before g old new l l' a [] c = refl
row_before g old new l l' a (name ∷ names) c =
    let i = and_inv (carries old (packed_of name)) (are_carried old names) c in
    rw (a.before, a.after, a.number name i.0, row_before g old new l l' a names i.1)

-- the new layout has it too
carried_on : (old new : Layout) → Extends old new → (names : List (List ℕ)) → are_carried old names ≡ true → are_carried new names ≡ true
unfolding are_carried
carried_on old new x [] c = refl
carried_on old new x (name ∷ names) c =
    let i = and_inv (carries old (packed_of name)) (are_carried old names) c in
    rw (carried old new x (packed_of name) i.0, carried_on old new x names i.1)

-- ---- what is asked, where the layout has all of the codes

-- whose columns they are
abbrev grid_for : Flight → Family → Grid
grid_for f g = record { family = g; layout = layout_of g f.layouts; lines = count_of g f.counts }

abbrev grid_by : Bool → Bool → Grid → Said Grid
grid_by are room a = need are (no BadValue 0) λ _. need room (no NoRoom 0) λ _. says a

grid_by_lem : (f : Flight) (g : Family) (codes : List ℕ) (room : ℕ) → are_carried (layout_of g f.layouts) (names_of codes) ≡ true
    → grid_in f g codes room ≡ grid_by (are_codes codes) (leb (count_of g f.counts * (length codes / 3)) room) (grid_for f g)
unfolding grid_in grid_room asked_said places_said
grid_by_lem f g codes room c = rw c (by (are_codes codes) (places_of (layout_of g f.layouts) (names_of codes)) (grid_room f g codes room))
  where
    by : (t : Bool) (places : List ℕ) (s : Said Grid) → (and_then (need t (no BadValue 0) λ _. says places) λ _. s) ≡ need t (no BadValue 0) λ _. s
    by true places s = refl
    by false places s = refl

by_alike : (file other codes : List ℕ) (are room : Bool) (a b : Grid) → b.lines ≡ a.lines
    → rows_in b.family b.layout (names_of codes) (lines_of other) ≡ rows_in a.family a.layout (names_of codes) (lines_of file) → Alike file other codes (grid_by are room a) (grid_by are room b)
by_alike file other codes true true a b e r = (ap says e, r)
by_alike file other codes true false a b e r = (refl, refl)
by_alike file other codes false room a b e r = (refl, refl)

-- ---- two files

module _ (file file' : List ℕ) (f f' : Flight) (p : verdict columns_seal file None ≡ says f) (q : verdict columns_seal file' None ≡ says f') (more : ℕ) (w : LayoutsAsBefore file file' f f' more) where
  many : (g : Family) → length (lines_of_family g (lines_of file)) ≡ count_of g f.counts
  many g = family_tallied g (lines_of file) ∙ sym (family_counted columns_seal file None f p g)

  many' : (g : Family) → length (lines_of_family g (lines_of file')) ≡ count_of g f'.counts
  many' g = family_tallied g (lines_of file') ∙ sym (family_counted columns_seal file' None f' q g)

  pub rows_before : (g : Family) (names : List (List ℕ)) → are_carried (layout_of g f.layouts) names ≡ true
      → rows_in g (layout_of g f'.layouts) names (lines_of file') ≡ rows_in g (layout_of g f.layouts) names (lines_of file)
  rows_before g names c =
      let old = layout_of g f.layouts in
      let new = layout_of g f'.layouts in
      rows_those g new names (lines_of file')
      ∙ ap (joined (row_in g new names)) (family_those g (lines_of file'))
      ∙ joined_same (row_in g old names) (row_in g new names) (lines_of_family g (lines_of file)) (lines_of_family g (lines_of file')) (many' g ∙ w.reads.counts g ∙ sym (many g))
      (λ n h. row_before g old new (line_of g file n) (line_of g file' n) (w.reads.columned g n (omega (arith, many g, h))) names c)
      ∙ sym (ap (joined (row_in g old names)) (family_those g (lines_of file)))
      ∙ sym (rows_those g old names (lines_of file))

  family_alike : (g : Family) (codes : List ℕ) (room : ℕ) → are_carried (layout_of g f.layouts) (names_of codes) ≡ true → Alike file file' codes (grid_in f g codes room) (grid_in f' g codes room)
  family_alike g codes room c =
      rw (grid_by_lem f g codes room c, grid_by_lem f' g codes room (carried_on (layout_of g f.layouts) (layout_of g f'.layouts) (w.layouts g) (names_of codes) c), w.reads.counts g)
      (by_alike file file' codes (are_codes codes) (leb (count_of g f.counts * (length codes / 3)) room) (grid_for f g) (record { family = g; layout = layout_of g f'.layouts; lines = count_of g f.counts }) refl
      (rows_before g (names_of codes) c))

  pub widely_alike : (letter : ℕ) (codes : List ℕ) (room : ℕ) → OldCodes f letter codes → Alike file file' codes (grid_of f letter codes room) (grid_of f' letter codes room)
  unfolding grid_of
  widely_alike letter codes room old = by (family_of letter) refl
    where
      by : (o : Option Family) → family_of letter ≡ o
          → Alike file file' codes (given o (no BadValue 0) λ g. grid_in f g codes room) (given o (no BadValue 0) λ g. grid_in f' g codes room)
      by None e = (refl, refl)
      by (Some g) e = family_alike g codes room (old g e)
