-- The entries of a layout that is allowed are 13 at most, each spelt, so that each is shown and a line's text has room in 4,096 bytes. Assumes nothing.
use Prim.Native.Nat.{ℕ, ◌+◌, ◌*◌, ◌≤◌, ◌<◌}
use mathlib.Core.Bool.{Bool, true, false, ◌&&◌}
use mathlib.Core.List.{List, [], ◌∷◌, ◌++◌}
use mathlib.Core.Path.{◌≡◌, refl, ap₂}
use native.Mathlib.Omega.{arith}
use borrow.Author.Tests.{leb-true}
use lib.Dec.{leb, eqb}
use lib.ListN.{length, get_or, length-append}
use Prim.Native.Char.{code}
use Rattle.rules.specs.Choice.{need}
use Rattle.rules.specs.Refusals.{Said, says, refuses}
use Rattle.rules.specs.Layouts.{entries_of, empty_layout, with_entry, is_spelt, is_said, placed, all_placed, allowed}
use Rattle.rules.specs.Listed.{is_code_word}
use Rattle.rules.specs.Lines.{fix_fields}
use Rattle.rules.specs.Listing.{columns_shown, line_shown}
use Rattle.rules.specs.declared.Entry.{Entry}
use Rattle.rules.specs.declared.Layout.{Layout}
use Rattle.rules.specs.declared.FixFields.{FixFields}
use Rattle.rules_values.proofs.Laws.{take_most}
use Rattle.text_listing.proofs.Laws.{fix_room, column_room}
use Rattle.text_listing.proofs.Callers.{column_spelt}
use Rattle.rules.proofs.Inverse.{and_inv}
use Rattle.text_block.specs.Blocks.{column_lines, printed}

abbrev AllSpelt : List Entry → Type 0
AllSpelt [] = Unit {0}
AllSpelt (e ∷ es) = (is_spelt e ≡ true) × AllSpelt es

all_spelt : (es : List Entry) (start : ℕ) (before : Layout) → all_placed es start before ≡ true → AllSpelt es
unfolding all_placed
all_spelt [] start before h = tt
all_spelt (e ∷ es) start before h =
    let a = and_inv (is_spelt e && is_said (placed start before e 0)) _ h in
    ((and_inv (is_spelt e) (is_said (placed start before e 0)) a.0).0, all_spelt es (e.last + 1) (with_entry before e) a.1)

-- at most 13 entries, each of three characters
abbrev Showable : Layout → Type 0
Showable layout = (length (entries_of layout) ≤ 13) × AllSpelt (entries_of layout)

showable : (layout : Layout) → allowed 36 layout ≡ true → Showable layout
unfolding allowed
showable layout h =
    let a = and_inv (leb layout.count 13 && all_placed (entries_of layout) 36 empty_layout) _ h in
    let b = and_inv (leb layout.count 13) _ a.0 in
    (omega (arith, take_most layout.count layout.entries, leb-true layout.count 13 b.0), all_spelt (entries_of layout) 36 empty_layout b.1)

-- ---- each is shown

spelt_lines : (l : List ℕ) (es : List Entry) → AllSpelt es → column_lines l es ≡ columns_shown l es
unfolding column_lines columns_shown
spelt_lines l [] s = refl
spelt_lines l (e ∷ es) s = ap₂ (λ (a b : List ℕ). a ++ b) (column_spelt l e s.0) (spelt_lines l es s.1)

pub lines_shown : (l : List ℕ) (layout : Layout) → allowed 36 layout ≡ true → column_lines l (entries_of layout) ≡ columns_shown l (entries_of layout)
lines_shown l layout h = spelt_lines l (entries_of layout) (showable layout h).1

-- ---- and there is room for all that is printed for a line

last_low : (e : Entry) → is_spelt e ≡ true → e.last < 256
unfolding is_spelt
last_low e h = omega (arith, leb-true e.last 99 (and_inv (leb e.last 99) (is_code_word e.code) h).0)

columns_room : (l : List ℕ) (es : List Entry) → AllSpelt es → length (column_lines l es) ≤ 288 * length es
unfolding column_lines
columns_room l [] s = omega arith
columns_room l (e ∷ es) s = simp length-append (omega (arith, column_room l e (last_low e s.0), columns_room l es s.1))

pub printed_room : (passed : ℕ) (layout : Layout) (l : List ℕ) → allowed 36 layout ≡ true → length (printed passed layout l) ≤ 4096
unfolding printed line_shown
printed_room passed layout l ok = by (eqb (get_or l 0 0) (code "B")) (fix_fields l)
  where
    by : (t : Bool) (s : Said FixFields) → length (need t [] λ _. line_shown (passed + 1) layout l s) ≤ 4096
    by false s = omega arith
    by true (refuses n k b) = omega arith
    by true (says f) =
        let w = showable layout ok in
        let c = columns_room l (entries_of layout) w.1 in
        rw (← lines_shown l layout ok) (simp length-append (omega (arith, fix_room (passed + 1) f, c, w.0)))
