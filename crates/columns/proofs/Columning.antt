-- Of an accepted file: its lines keep their sizes, and the numbers by the places of the columns are those that the looks give. Assumes nothing.
use Rattle.std.specs.Prelude.{None, Option, Some}
use Prim.Native.Nat.{ℕ, suc, ◌+◌, ◌-◌, ◌*◌, ◌/◌, ◌≤◌}
use mathlib.Core.Bool.{Bool, true, false, cond}
use mathlib.Core.List.{List, [], ◌∷◌, ◌++◌}
use mathlib.Core.Path.{◌≡◌, refl, sym, ap, ◌∙◌}
use native.Mathlib.Nat.{zero-mul, add-mul, one-mul}
use native.Mathlib.Omega.{arith}
use borrow.Author.Tests.{eqb-true}
use lib.Dec.{eqb}
use lib.IntN.{ℤ}
use lib.ListN.{length, get_or, drop, replicate, length-append}
use lib.Seq.{sets, sets-eq, take_at}
use Rattle.rules.specs.Choice.{given, first_of, part, Each}
use Rattle.rules.specs.Families.{first_start, line_letter, layout_of, count_of}
use Rattle.rules.specs.declared.Span.{Span}
use Rattle.rules.specs.Layouts.{entries_of, look, carries, line_length, column_text}
use Rattle.rules.specs.Lines.{shaped_by}
use Rattle.rules.specs.Listed.{packed_of}
use Rattle.rules.specs.Looks.{fits_line, look_said, look_number}
use Rattle.rules.specs.Numbers.{whole_of}
use Rattle.rules.specs.Reads.{ValueOf, reading, said_of}
use Rattle.rules.specs.Refusals.{says, no}
use Rattle.rules.specs.Split.{Lines, end, broken, line, lines_of}
use Rattle.rules.specs.declared.Entry.{Entry}
use Rattle.rules.specs.declared.Extra.{Extra}
use Rattle.rules.specs.declared.Extra.TheVariants as extra
use Rattle.rules.specs.declared.Family.{Family}
use Rattle.rules.specs.declared.Family.TheVariants as family
use Rattle.rules.specs.declared.Flight.{Flight}
use Rattle.rules.specs.declared.Layout.{Layout}
use Rattle.rules.specs.declared.Layouts.{Layouts}
use Rattle.rules.specs.declared.Reason.TheVariants as reason
use Rattle.rules.specs.declared.Signed.{Signed}
use Rattle.rules.proofs.Inverse.{none_some, refuses_says, need_inv, then_inv, and_inv, false_true}
use Rattle.rules_laws.proofs.Splitting.{Whole, texts_of}
use Rattle.rules_laws.proofs.Counted.{accepted_whole}
use Rattle.rules_trips.proofs.Columned.{by_said}
use Rattle.rules_trips.proofs.Extras.{extra_front}
use Rattle.rules_trips.proofs.Texts.{shaped_there}
use Rattle.rules_sound.proofs.Looked.{look_there}
use Rattle.grammar.specs.Grammar.{beginning}
use Rattle.grammar.specs.Readings.{ReadsColumn, ReadsColumned, ReadsLine}
use Rattle.grammar.proofs.EachLine.{fix_alone}
use Rattle.track.proofs.Stepping.{fixed}
use Rattle.track.proofs.Accepted.{texts_read, letters_counted}
use Rattle.columns_asked.specs.Asks.{names_of, are_carried, places_of, spotted}
use Rattle.columns_asked.proofs.Asking.{names_long}
use Rattle.columns_row.specs.Cells.{marked, cell_of, row_from, row_of}
use Rattle.columns.specs.Columns.{columns_seal, cell_said, number_in, row_in, rows_in, over}
use Rattle.columns.specs.Lines.{sizes_of, size_in, Sized, rows_by, Found}

-- ---- a line that reads

-- its reading has the entries of its layout
pub reads_so : (g : Family) (layout : Layout) (t : List ℕ) → ReadsColumned g layout t → (v : ValueOf g) × (reading g t layout ≡ says (record { value = v; entries = layout }))
reads_so family.B layout t r = (r.fix, r.reads)
reads_so (family.Extra x) layout t r = (r.time, r.reads)

pub entries_so : (g : Family) (layout : Layout) (t : List ℕ) → ReadsColumned g layout t → Each (ReadsColumn layout t) (entries_of layout)
entries_so family.B layout t r = r.columns.carried
entries_so (family.Extra x) layout t r = r.columns.carried

-- it has its layout's length
extra_long : (x : Extra) (layout : Layout) (t : List ℕ) (v : ℕ) → reading (family.Extra x) t layout ≡ says (record { value = v; entries = layout }) → length t ≡ line_length 8 layout
unfolding reading shaped_by
extra_long x layout t v e =
    let s = then_inv (said_of (family.Extra x) t layout) (record { value = v; entries = layout }) _ e in
    let w = by_said (family.Extra x) t layout s.0 s.1 in
    let p = ((extra_front x).passes layout t s.0).0 w.2 in
    let n = shaped_there (line_length 8 layout) (line_length 8 layout) t tt p.shape in
    omega (arith, n.0, n.1)

reads_long : (g : Family) (layout : Layout) (t : List ℕ) → ReadsColumned g layout t → length t ≡ line_length (first_start g) layout
reads_long family.B layout t r = (fixed layout t r.fix (fix_alone t layout _ r.reads)).long
reads_long (family.Extra x) layout t r = extra_long x layout t r.time r.reads

size_same : (g : Family) (ls : Layouts) → line_length (first_start g) (layout_of g ls) ≡ size_in g (sizes_of ls)
size_same family.B ls = refl
size_same (family.Extra extra.K) ls = refl
size_same (family.Extra extra.N) ls = refl

pub lines_sized : (ls : Layouts) (k : Lines) → Each (ReadsLine ls) (texts_of k) → Whole k → Sized (sizes_of ls) k
lines_sized ls end r w = tt
lines_sized ls (broken n) r w = w
lines_sized ls (line t rest) r w = ((λ g e. reads_long g (layout_of g ls) t (r.0.columned g e) ∙ size_same g ls), lines_sized ls rest r.1 w)

-- ---- the number of a column

-- where a layout has a column at all, the line's answer fits
pub fits_by : (layout : Layout) (t : List ℕ) (x : ℕ) (s : Span) → look layout x ≡ Some s → Each (ReadsColumn layout t) (entries_of layout) → fits_line t layout ≡ true
unfolding look look_said first_of
fits_by layout t x s e r = by (entries_of layout) refl r
  where
    by : (es : List Entry) → entries_of layout ≡ es → Each (ReadsColumn layout t) es → fits_line t layout ≡ true
    by [] q v = absurd (none_some (rw q at e))
    by (y ∷ es) q v = (need_inv (fits_line t layout) _ (says _) _ refuses_says v.0.span).0

number_is : (o : Option Signed) → number_in (given o (no reason.NotNumber 0) λ z. says z) ≡ (marked o).value
unfolding marked
number_is None = refl
number_is (Some z) = refl

module _ (g : Family) (layout : Layout) (t : List ℕ) (r : ReadsColumned g layout t) where
  -- the number that the look gives in the reading of the line is that of the text at the column's places
  pub cell_is : (name : List ℕ) (s : Span) → look layout (packed_of name) ≡ Some s → number_in (cell_said g layout t name) ≡ cell_of t s
  unfolding look_number
  cell_is name s e =
      let f = fits_by layout t (packed_of name) s e (entries_so g layout t r) in
      rw ((reads_so g layout t r).1, look_there t layout name f, e) (number_is (whole_of (column_text t s)))

  -- so the row by places is the row of the line
  pub row_is : (names : List (List ℕ)) → are_carried layout names ≡ true → row_from (length names) t (places_of layout names) ≡ row_in g layout names t
  unfolding row_from row_in places_of are_carried carries
  row_is [] e = refl
  row_is (name ∷ names) e =
      let w = and_inv (carries layout (packed_of name)) (are_carried layout names) e in
      by (look layout (packed_of name)) refl w.0 (row_is names w.1)
    where
      by : (o : Option Span) → look layout (packed_of name) ≡ o → carries layout (packed_of name) ≡ true → row_from (length names) t (places_of layout names) ≡ row_in g layout names t
          → row_from (suc (length names)) t (places_of layout (name ∷ names)) ≡ row_in g layout (name ∷ names) t
      by None q c later = absurd (false_true (rw q at c))
      by (Some s) q c later = rw (q, cell_is name s q) (ap (λ (l : List ℤ). cell_of t s ∷ l) later)

pub row_wide : (g : Family) (layout : Layout) (names : List (List ℕ)) (t : List ℕ) → length (row_in g layout names t) ≡ length names
unfolding row_in
row_wide g layout [] t = refl
row_wide g layout (name ∷ names) t = ap suc (row_wide g layout names t)

pub places_long : (layout : Layout) (names : List (List ℕ)) → are_carried layout names ≡ true → length (places_of layout names) ≡ length names * 2
unfolding places_of are_carried carries
places_long layout [] e = refl
places_long layout (name ∷ names) e =
    let w = and_inv (carries layout (packed_of name)) (are_carried layout names) e in
    by (look layout (packed_of name)) refl w.0 (places_long layout names w.1)
  where
    by : (o : Option Span) → look layout (packed_of name) ≡ o → carries layout (packed_of name) ≡ true → length (places_of layout names) ≡ length names * 2 → length (places_of layout (name ∷ names)) ≡ suc (length names) * 2
    by None q c later = absurd (false_true (rw q at c))
    by (Some s) q c later = rw q (omega (arith, later))

-- ---- all rows

module _ (g : Family) (ls : Layouts) (names : List (List ℕ)) (carried : are_carried (layout_of g ls) names ≡ true) where
  abbrev layout : Layout
  layout = layout_of g ls

  abbrev places : List ℕ
  places = places_of layout names

  half : length places / 2 ≡ length names
  half = omega (arith, places_long layout names carried)

  pub rows_are : (k : Lines) → Each (ReadsLine ls) (texts_of k) → rows_by (line_letter g) places k ≡ rows_in g layout names k
  unfolding rows_by rows_in
  rows_are end r = refl
  rows_are (broken n) r = refl
  rows_are (line t rest) r = by (eqb (get_or t 0 0) (line_letter g)) refl (rows_are rest r.1)
    where
      by : (b : Bool) → eqb (get_or t 0 0) (line_letter g) ≡ b → rows_by (line_letter g) places rest ≡ rows_in g layout names rest
          → cond b (row_of t places ++ rows_by (line_letter g) places rest) (rows_by (line_letter g) places rest) ≡ cond b (row_in g layout names t ++ rows_in g layout names rest) (rows_in g layout names rest)
      by false e later = later
      by true e later =
          let x : ReadsColumned g layout t = r.0.columned g (eqb-true (get_or t 0 0) (line_letter g) e) in
          rw (half, row_is g layout t x names carried, later)

  pub rows_long : (k : Lines) → length (rows_in g layout names k) ≡ beginning (line_letter g) (texts_of k) * length names
  unfolding rows_in beginning
  rows_long end = sym (zero-mul (length names))
  rows_long (broken n) = sym (zero-mul (length names))
  rows_long (line t rest) = by (eqb (get_or t 0 0) (line_letter g)) (rows_long rest)
    where
      by : (b : Bool) → length (rows_in g layout names rest) ≡ beginning (line_letter g) (texts_of rest) * length names
          → length (cond b (row_in g layout names t ++ rows_in g layout names rest) (rows_in g layout names rest)) ≡ (cond b 1 0 + beginning (line_letter g) (texts_of rest)) * length names
      by false later = let z : 0 + beginning (line_letter g) (texts_of rest) ≡ beginning (line_letter g) (texts_of rest) = omega arith in rw z later
      by true later =
          length-append (row_in g layout names t) (rows_in g layout names rest) ∙ rw (row_wide g layout names t, later, add-mul, one-mul)

-- ---- the spots of the columns, and the list afterwards

pub part_is : (spots ps : List ℕ) (k : ℕ) → length ps ≡ k * 2 → k ≤ 13 → spots ≡ spotted ps → part 0 (k * 2) spots ≡ ps
part_is spots ps k n h e =
    let w : 0 + length ps ≤ 26 = omega (arith, n) in
    let s : spots ≡ ps ++ drop (0 + length ps) (replicate 26 0) = e ∙ sets-eq ps (replicate 26 0) 0 w in
    let m : k * 2 - 0 ≡ k * 2 = omega arith in
    rw (m, s) (take_at ps (drop (0 + length ps) (replicate 26 0)) (k * 2) n)

pub over_is : (vs list : List ℤ) → length vs ≤ length list → sets list 0 vs ≡ over vs list
over_is vs list h =
    let m : 0 + length vs ≡ length vs = omega arith in
    rw m at (sets-eq vs list 0 (omega (arith, h)))

-- ---- an accepted file whose columns are found

module _ (file : List ℕ) (f : Flight) (g : Family) (codes spots : List ℕ) (w : Found file f g codes spots) where
  abbrev wide : ℕ
  wide = length codes / 3

  abbrev all : List ℤ
  all = rows_in g (layout_of g f.layouts) (names_of codes) (lines_of file)

  read : Each (ReadsLine f.layouts) (texts_of (lines_of file))
  read = texts_read columns_seal file f w.accepted

  pub found_sized : Sized (sizes_of f.layouts) (lines_of file)
  found_sized = lines_sized f.layouts (lines_of file) read (accepted_whole columns_seal file None f w.accepted)

  pub found_places : part 0 (wide * 2) spots ≡ places_of (layout_of g f.layouts) (names_of codes)
  found_places =
      let n = places_long (layout_of g f.layouts) (names_of codes) w.carried ∙ ap (λ (x : ℕ). x * 2) (names_long wide codes) in
      part_is spots _ wide n (omega (arith, w.few)) w.spots

  pub found_rows : rows_by (line_letter g) (part 0 (wide * 2) spots) (lines_of file) ≡ all
  found_rows = rw found_places (rows_are g f.layouts (names_of codes) w.carried (lines_of file) read)

  pub found_long : length all ≡ count_of g f.counts * wide
  found_long =
      rows_long g f.layouts (names_of codes) w.carried (lines_of file) ∙ rw (names_long wide codes, letters_counted columns_seal file f w.accepted g)
