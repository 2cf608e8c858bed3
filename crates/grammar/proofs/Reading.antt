-- What can be read from an accepted file: its lines by number and step by step; its date and its layouts, from the lines that tell them; each B line, K line and N line, by these
-- layouts, as the value whose line it is, column by column; each E and F line; and its declaration, a head with its points. Assumes nothing.
use Rattle.std.specs.Prelude.{Some}
use Prim.Native.Nat.{ℕ, zero, suc, ◌+◌, ◌-◌, ◌≤◌, ◌<◌}
use Prim.Native.Char.{code}
use mathlib.Core.Bool.{Bool, true, false, ◌&&◌}
use mathlib.Core.List.{List, [], ◌∷◌, ◌++◌, append_assoc}
use mathlib.Core.Logic.{◌↔◌}
use mathlib.Core.Path.{◌≡◌, refl, sym, ◌∙◌, ap, ap₂, subst}
use native.Mathlib.Nat.{zero-add}
use native.Mathlib.Omega.{arith}
use borrow.Author.Tests.{ne_eqb, eqb-false, ltb-true, leb-true}
use lib.Dec.{eqb, ltb}
use lib.ListN.{length, get_or, take, drop}
use Rattle.rules.specs.Choice.{bytes, Each}
use Rattle.rules.specs.Families.{first_start, line_letter, layout_letter, layout_of, count_of}
use Rattle.rules.specs.Refusals.{says}
use Rattle.rules.specs.Layouts.{empty_layout, entries_of}
use Rattle.rules.specs.Split.{Lines, end, lines_of, offsets}
use Rattle.rules.specs.Reads.{Reading, reading, fix_said, extra_said, date_said, layout_said, head_rest, point_rest}
use Rattle.rules.specs.Files.{verdict, good_lines, table_after}
use Rattle.rules.specs.Lines.{kind_of}
use Rattle.rules.specs.declared.Date.{Date}
use Rattle.rules.specs.declared.Layout.{Layout}
use Rattle.rules.specs.declared.Extra.{Extra}
use Rattle.rules.specs.declared.Extra.TheVariants as extra
use Rattle.rules.specs.declared.Family.{Family}
use Rattle.rules.specs.declared.Family.TheVariants as family
use Rattle.rules.specs.declared.Layouts.{Layouts}
use Rattle.rules.specs.declared.Position.{Position}
use Rattle.rules.specs.declared.Fix.{Fix}
use Rattle.rules.specs.declared.Head.{Head}
use Rattle.rules.specs.declared.Seal.{Seal}
use Rattle.rules.specs.declared.Role.{Role}
use Rattle.rules.specs.declared.Role.TheVariants as role
use Rattle.rules.specs.declared.Flight.{Flight}
use Rattle.rules.proofs.Inverse.{false_true, and_inv}
use Rattle.rules_laws.proofs.Splitting.{texts_of, steps, lengths_total}
use Rattle.rules_laws.proofs.Splitting as splitting
use Rattle.rules_laws.proofs.Passing.{role_in}
use Rattle.rules_laws.proofs.Counted.{accepted_whole, good_in, text_of, offset_of, Numbered, table_length, entry_put, entry_kept, line_by_number}
use Rattle.rules_sound.proofs.Looked.{read_fits, start_low}
use Rattle.rules_trips.proofs.Columned.{fields_trip}
use Rattle.rules_trips.proofs.Fixes.{fix_front}
use Rattle.rules_trips.proofs.Extras.{extra_trip}
use Rattle.rules_trips.proofs.Heads.{head_trip}
use Rattle.rules_trips.proofs.Points.{point_trip}
use Rattle.grammar.specs.Grammar.{IsDateLine, IsLayoutLine, IsHeadLine, IsPointLine, IsELine, IsFLine, Columns, IsBLine, IsExtraLine, IsColumned, IsGLine, IsLLine, AtMostOne, absent, given, Timed, Untimed, differential, remark, other, Items, done, timed, untimed, Body, undeclared, Parts, told_in, lines_in, Keeps, Meets, beginning, flight_of}
use Rattle.grammar.specs.Grammar as grammar
use Rattle.grammar.specs.Coming.{is_among}
use Rattle.rules_sound.proofs.Fine.{fine_there}
use Rattle.grammar_words.specs.Values.{IsLatitude, IsLongitude}
use Rattle.grammar_words.specs.Finer.{IsFineLatitude, IsFineLongitude}
use Rattle.grammar_words.proofs.Finer.{fine_latitude_exactly, fine_longitude_exactly}
use Rattle.grammar.specs.Readings.{Entered, unrefined, ReadsMap, ReadsFix, ReadsExtra, ReadsColumned, ReadsColumns, ReadsValue, ReadsLayout, ReadsPresence, ReadsLine, ReadsHead, ReadsPoint, NoC, ReadsDeclaration, nowhere, declared, total, Steps, Readable}
use Rattle.rules_trips.proofs.Each.{each_map, each_join, each_cut}
use Rattle.rules_sound.proofs.Families.{every, none_pass, line_role, tells_role}
use Rattle.grammar.proofs.EachLine.{e_said, f_said, b_fields, b_fix, fix_reads, extra_reads, fix_read, extra_read, reading_here, reading_there, columned_letter, columned_fields, head_reads, point_reads, head_said_lem, point_said_lem}
use Rattle.grammar.proofs.Readers.{date_exactly, event_exactly, satellite_exactly, on_map}
use Rattle.grammar.proofs.ByLayout.{presence_reads}
use Rattle.grammar.proofs.ByLayout as by_layout
use Rattle.grammar.proofs.LayoutLines.{IsTold, layout_said_lem, layout_line_exactly, told}
use Rattle.grammar.proofs.Leading.{other_role}
use Rattle.grammar.proofs.Sections.{before}
use Rattle.grammar.proofs.Accepted.{lines_cut, accepted_as}
use Rattle.grammar.proofs.Columns.{columns_read}

-- ---- the lines of the file are those of the grammar

pub texts_before : (ls : List (List ℕ)) → texts_of (before ls end) ≡ ls
texts_before [] = refl
texts_before (l ∷ ls) = ap (λ x. l ∷ x) (texts_before ls)

pub lines_are : {seal : Seal} (file : List ℕ) (m : Meets seal file) → texts_of (lines_of file) ≡ lines_in m.parts
lines_are file m = ap texts_of (lines_cut file m) ∙ texts_before (lines_in m.parts)

-- ---- their offsets, and the steps over them

-- whatever comes behind them
pub offset_is : (k : Lines) (ls : List (List ℕ)) (at n : ℕ) → n < length ls → get_or (offsets at (before ls k)) n 0 ≡ at + total (take n ls)
unfolding offsets total
offset_is k [] at n h = absurd (omega arith)
offset_is k (l ∷ ls) at zero h = omega arith
offset_is k (l ∷ ls) at (suc n) h = offset_is k ls (at + length l + 2) n (omega arith) ∙ omega arith

steps_over : (file : List ℕ) (ls : List (List ℕ)) (at : ℕ) → splitting.Steps file at (before ls end) → Steps file at ls
unfolding Steps
steps_over file [] at h = h
steps_over file (l ∷ ls) at h = (h.0, h.1, steps_over file ls (at + length l + 2) h.2)

total_is : (ls : List (List ℕ)) → splitting.total (before ls end) ≡ total ls
unfolding total
total_is [] = refl
total_is (l ∷ ls) = ap (λ n. length l + 2 + n) (total_is ls)

-- ---- lines with columns

-- the columns of a line that stand in its tail
tail_columns : {AtLat AtLon : Type 0} (f : Family) (layout : Layout) (t : ℕ) (l tail : List ℕ) → IsTold f layout → IsColumned f layout t l → drop (first_start f - 1) l ≡ tail
    → Columns AtLat AtLon (entries_of layout) tail → ReadsColumns f layout l
tail_columns f layout t l tail i w d c =
    let r = columned_fields f layout t l i w in
    columns_read f layout l tail (start_low f) i d c (read_fits f l layout r.0 i.full r.1)

-- the columns of a line that is, by the grammar, one of the family
pub line_columns : (f : Family) (layout : Layout) (t : ℕ) (l : List ℕ) → IsTold f layout → IsColumned f layout t l → ReadsColumns f layout l
line_columns family.B layout t l i w =
    tail_columns family.B layout t l w.1.tail i w (ap (drop 35) w.1.text ∙ (fields_trip fix_front layout).behind w.1.plain w.1.tail) w.1.columns
line_columns (family.Extra x) layout t l i w =
    tail_columns (family.Extra x) layout t l w.tail i w (ap (drop 7) w.text ∙ (extra_trip x layout).behind t w.tail) w.columns

-- a B line, and a K or an N line
-- a position without extra decimals
plain_latitude : {p : Position} → IsLatitude p → IsFineLatitude (unrefined p)
plain_latitude w = record { few = omega arith; most = w.most; letter = w.letter }

plain_longitude : {p : Position} → IsLongitude p → IsFineLongitude (unrefined p)
plain_longitude w = record { few = omega arith; most = w.most; letter = w.letter }

-- the positions of a fix that was read are within their limits
fix_on_map : (layout : Layout) (f : Fix) (l : List ℕ) → IsTold family.B layout → IsBLine layout f l → ReadsMap f.lat f.lon
fix_on_map layout f l i w =
    let h = fine_there l layout w.plain (b_fields layout i f l w) in
    subst (λ (g : Fix). ReadsMap g.lat g.lon) (b_fix layout i f l w) (on_map _ _ ((fine_latitude_exactly _).0 h.0) ((fine_longitude_exactly _).0 h.1))

reads_fix : (layout : Layout) (f : Fix) (l : List ℕ) → IsTold family.B layout → IsBLine layout f l → ReadsFix layout l
unfolding fix_said
reads_fix layout f l i w = record {
  fix = f;
  is = w;
  reads = reading_here family.B l layout f (fix_reads layout i f l w);
  map = fix_on_map layout f l i w;
  columns = line_columns family.B layout w.plain.time l i (f, w, refl);
}

reads_extra : (x : Extra) (layout : Layout) (t : ℕ) (l : List ℕ) → IsTold (family.Extra x) layout → IsExtraLine x layout t l → ReadsExtra x layout l
unfolding extra_said
reads_extra x layout t l i w = record {
  time = t;
  is = w;
  reads = reading_here (family.Extra x) l layout t (extra_reads x layout i t l w);
  columns = line_columns (family.Extra x) layout t l i w;
}

-- the whole reading, both ways
pub fixes_read : (layout : Layout) (l : List ℕ) → IsTold family.B layout → (r : Reading Fix) → (reading family.B l layout ≡ says r) ↔ (IsBLine layout r.value l × (r.entries ≡ layout))
unfolding fix_said
fixes_read layout l i r = (
  λ e. let w = reading_there family.B l layout r e in (fix_read layout i r.value l w.0, w.1),
  λ w. reading_here family.B l layout r.value (fix_reads layout i r.value l w.0) ∙ ap says (λ j. record { value = r.value; entries = sym w.1 j }),
)

pub extras_read : (x : Extra) (layout : Layout) (l : List ℕ) → IsTold (family.Extra x) layout → (r : Reading ℕ) → (reading (family.Extra x) l layout ≡ says r) ↔ (IsExtraLine x layout r.value l × (r.entries ≡ layout))
unfolding extra_said
extras_read x layout l i r = (
  λ e. let w = reading_there (family.Extra x) l layout r e in (extra_read x layout i r.value l w.0, w.1),
  λ w. reading_here (family.Extra x) l layout r.value (extra_reads x layout i r.value l w.0) ∙ ap says (λ j. record { value = r.value; entries = sym w.1 j }),
)

reads_columned : (f : Family) (layout : Layout) (t : ℕ) (l : List ℕ) → IsTold f layout → IsColumned f layout t l → ReadsColumned f layout l
reads_columned family.B layout t l i w = reads_fix layout w.0 l i w.1
reads_columned (family.Extra x) layout t l i w = reads_extra x layout t l i w

-- ---- a head and its points, with the texts behind their fields

reads_head : (h : Head) (l : List ℕ) → IsHeadLine h l → ReadsHead h l
unfolding head_rest
reads_head h l w =
    let r = head_reads h l w in
    record { is = w; reads = r; text = rw r (ap (drop 25) w.text ∙ head_trip.behind h w.rest) }

reads_point : (l : List ℕ) → IsPointLine l → ReadsPoint l
unfolding point_rest
reads_point l w =
    let r = point_reads l w in
    record { is = w; reads = r; map = on_map (unrefined w.point.lat) (unrefined w.point.lon) (plain_latitude w.lat) (plain_longitude w.lon); text = rw r (ap (drop 18) w.text ∙ point_trip.behind w.point w.rest) }

-- ---- lines that are none of these

-- a line of no family, no C line and no G line
abbrev pub Aside : List ℕ → Type 0
Aside l = is_among (bytes "BCGKN") (get_or l 0 0) ≡ false

pub other_than : (xs : List ℕ) (l : List ℕ) (x : ℕ) → is_among xs x ≡ true → is_among xs (get_or l 0 0) ≡ false → get_or l 0 0 ≡ x → ⊥
other_than xs l x y n e = false_true (sym n ∙ ap (is_among xs) e ∙ y)

all_below : ℕ → List ℕ → Bool
all_below n [] = true
all_below n (x ∷ xs) = ltb x n && all_below n xs

-- O to Z are 'other': none of the letters before O
above : (xs l : List ℕ) → code "O" ≤ get_or l 0 0 → all_below 79 xs ≡ true → is_among xs (get_or l 0 0) ≡ false
unfolding is_among all_below
above [] l h e = refl
above (x ∷ xs) l h e =
    let a = and_inv (ltb x 79) (all_below 79 xs) e in
    let b = ltb-true x 79 a.0 in
    rw (ne_eqb (get_or l 0 0) x (λ z. omega arith)) (above xs l h a.1)

pub untimed_aside : {l : List ℕ} → Untimed l → Aside l
unfolding is_among bytes all_below
untimed_aside (differential w) = rw w.letter
untimed_aside (remark w) = rw w.letter
untimed_aside {l} (other w) = above (bytes "BCGKN") l w.from refl

-- the reader of a line of a role: 1 of a layout, 2 of a line with columns, 3 of an E line, 4 of an F line
abbrev reader : Role → ℕ
reader = elim [ role.Opens ↦ 0 | role.Heads ↦ 0 | role.Tells f ↦ 1 | role.Columned f ↦ 2 | role.Declares ↦ 0 | role.Event ↦ 3 | role.Satellites ↦ 4 | role.Differential ↦ 0 | role.Seals ↦ 0 | role.Remark ↦ 0 | role.Other ↦ 0 | role.NoRole ↦ 0 ]

-- a line of none of them
abbrev Idle : List ℕ → Type 0
Idle l = reader (role_in l) ≡ 0

untimed_idle : {l : List ℕ} → Untimed l → Idle l
unfolding kind_of
untimed_idle (differential w) = rw w.letter
untimed_idle (remark w) = rw w.letter
untimed_idle (other w) = ap reader (other_role _ w.from w.to)

-- what is so of the line that tells a layout is so of each of its lines
one_by : (f : Family) {P : List ℕ → Type 0} {layout : Layout} {ls : List (List ℕ)} → AtMostOne f layout ls → ((l : List ℕ) → IsLayoutLine f layout l → P l) → Each P ls
one_by f absent h = tt
one_by f (given {l = l} w) h = (h l w, tt)

one_aside : (f : Family) {layout : Layout} {ls : List (List ℕ)} → AtMostOne f layout ls → Each Aside ls
unfolding is_among bytes
one_aside f {layout} o = one_by f o (λ l w. rw (layout_said_lem f layout l w).0 (none_pass (λ f. is_among (bytes "BCGKN") (layout_letter f)) refl f))

aside_no_c : (l : List ℕ) → Aside l → NoC l
unfolding is_among bytes
aside_no_c l n = other_than (bytes "BCGKN") l (code "C") refl n

-- ---- each line as it may be read, by its letter

module _ (layouts : Layouts) (l : List ℕ) where
  -- a line has one reader
  not : {A : Type 0} (n : ℕ) → reader (role_in l) ≡ n → (r : Role) → role_in l ≡ r → eqb n (reader r) ≡ false → A
  not n k r z d = absurd (eqb-false n (reader r) d (sym k ∙ ap reader z))

  event_is : get_or l 0 0 ≡ code "E" → role_in l ≡ role.Event
  unfolding kind_of
  event_is z = rw z

  satellites_is : get_or l 0 0 ≡ code "F" → role_in l ≡ role.Satellites
  unfolding kind_of
  satellites_is z = rw z

  no_columns_lem : (n : ℕ) → reader (role_in l) ≡ n → eqb n (reader (role.Columned family.B)) ≡ false → (g : Family) → get_or l 0 0 ≡ line_letter g → ReadsColumned g (layout_of g layouts) l
  no_columns_lem n k d g z = not n k (role.Columned g) (line_role g _ z) d

  no_layout : (n : ℕ) → reader (role_in l) ≡ n → eqb n (reader (role.Tells family.B)) ≡ false → (g : Family) → get_or l 0 0 ≡ layout_letter g → ReadsValue (layout_said g) (IsLayoutLine g) (layout_of g layouts) l
  no_layout n k d g z = not n k (role.Tells g) (tells_role g _ z) d

  idle : Idle l → ReadsLine layouts l
  idle k = record { columned = no_columns_lem 0 k refl; tells = no_layout 0 k refl; event = λ z. not 0 k role.Event (event_is z) refl; satellites = λ z. not 0 k role.Satellites (satellites_is z) refl }

  columned_reads : (f : Family) (t : ℕ) → IsTold f (layout_of f layouts) → IsColumned f (layout_of f layouts) t l → ReadsLine layouts l
  columned_reads f t i w =
      let r = line_role f _ (columned_letter f (layout_of f layouts) t l w) in
      let k = ap reader r in
      record {
        columned = λ g z. let q = line_role g _ z in let e : f ≡ g = cc (q, r) in rw (← e) (reads_columned f (layout_of f layouts) t l i w);
        tells = no_layout 2 k refl;
        event = λ z. not 2 k role.Event (event_is z) refl;
        satellites = λ z. not 2 k role.Satellites (satellites_is z) refl;
      }

  layout_reads : (f : Family) → IsLayoutLine f (layout_of f layouts) l → ReadsLine layouts l
  layout_reads f w =
      let r = tells_role f _ (layout_said_lem f (layout_of f layouts) l w).0 in
      let k = ap reader r in
      record {
        columned = no_columns_lem 1 k refl;
        tells = λ g z. let q = tells_role g _ z in let e : f ≡ g = cc (q, r) in rw (← e) (record { is = w; reads = (layout_line_exactly f (layout_of f layouts) l).1 w });
        event = λ z. not 1 k role.Event (event_is z) refl;
        satellites = λ z. not 1 k role.Satellites (satellites_is z) refl;
      }

  event_reads : (t : ℕ) → IsELine t l → ReadsLine layouts l
  event_reads t w =
      let k = ap reader (event_is (e_said l t w).0) in
      record {
        columned = no_columns_lem 3 k refl;
        tells = no_layout 3 k refl;
        event = λ z. (t, record { is = w; reads = (event_exactly t l).1 w });
        satellites = λ z. not 3 k role.Satellites (satellites_is z) refl;
      }

  satellite_reads : (t : ℕ) → IsFLine t l → ReadsLine layouts l
  satellite_reads t w =
      let k = ap reader (satellites_is (f_said l t w).0) in
      record {
        columned = no_columns_lem 4 k refl;
        tells = no_layout 4 k refl;
        event = λ z. not 4 k role.Event (event_is z) refl;
        satellites = λ z. (t, record { is = w; reads = (satellite_exactly t l).1 w });
      }

-- with no line that tells it a layout is empty
none_told : (f : Family) {layout : Layout} {ls : List (List ℕ)} → AtMostOne f layout ls → Each (λ l. get_or l 0 0 ≡ layout_letter f → ⊥) ls → layout ≡ empty_layout
none_told f absent h = refl
none_told f (given {layout = i} {l = l} w) h = absurd (h.0 (layout_said_lem f i l w).0)

-- ---- the lines of a body

module _ (layouts : Layouts) (can_tell : (f : Family) → IsTold f (layout_of f layouts)) where
  -- each line is read as it may be, and is no C line
  abbrev Item : List ℕ → Type 0
  Item l = ReadsLine layouts l × NoC l

  timed_item : {t : ℕ} (l : List ℕ) → Timed layouts t l → Item l
  unfolding is_among bytes
  timed_item {t} l (grammar.columned f w) =
      let k = columned_letter f (layout_of f layouts) t l w in
      (columned_reads layouts l f t (can_tell f) w, λ z. eqb-false (line_letter f) (code "C") (none_pass (λ f. eqb (line_letter f) (code "C")) refl f) (sym k ∙ z))
  timed_item {t} l (grammar.event w) = (event_reads layouts l t w, aside_no_c l (rw (e_said l t w).0))
  timed_item {t} l (grammar.satellites w) = (satellite_reads layouts l t w, aside_no_c l (rw (f_said l t w).0))

  untimed_item : {l : List ℕ} → Untimed l → Item l
  untimed_item {l} w = (idle layouts l (untimed_idle w), aside_no_c l (untimed_aside w))

  items_read : {ls : List (List ℕ)} {ts : List ℕ} → Items layouts ls ts → Each Item ls
  items_read done = tt
  items_read (timed {l = l} w r) = (timed_item l w, items_read r)
  items_read (untimed w r) = (untimed_item w, items_read r)

  body_reads : {ls : List (List ℕ)} {ts : List ℕ} → Body layouts ls ts → Each (ReadsLine layouts) ls
  unfolding kind_of
  body_reads (undeclared {ls = ls} i) = each_map ls (λ l x. x.0) (items_read i)
  body_reads (grammar.declared pre hd points after h i no_b w ps c j) =
      each_join (ReadsLine layouts) pre (hd ∷ (points ++ after)) (each_map pre (λ l x. x.0) (items_read i)) (
        idle layouts hd (rw (head_said_lem h hd w).0),
        each_join (ReadsLine layouts) points after (each_map points (λ l v. idle layouts l (rw (point_said_lem l v).0)) ps) (each_map after (λ l x. x.0) (items_read j)),
      )

  -- the declaration of a body, between lines that are no C lines
  body_declares : {ls : List (List ℕ)} {ts : List ℕ} (a z : List (List ℕ)) → Each NoC a → Each NoC z → Body layouts ls ts → ReadsDeclaration (a ++ (ls ++ z))
  body_declares a z p q (undeclared {ls = ls} i) = nowhere (each_join NoC a (ls ++ z) p (each_join NoC ls z (each_map ls (λ l x. x.1) (items_read i)) q))
  body_declares a z p q (grammar.declared pre hd points after h i no_b w ps c j) =
      declared (a ++ pre) hd points (after ++ z) h
      (simp append_assoc)
      (each_join NoC a pre p (each_map pre (λ l x. x.1) (items_read i)))
      (reads_head h hd w)
      (each_map points reads_point ps)
      c
      (each_join NoC after z (each_map after (λ l x. x.1) (items_read j)) q)

-- ---- the lines before the body, and those behind it

-- what is so of each family's layout lines is so of them all, and back
told_each : (p : Parts) (P : List ℕ → Type 0) → ((f : Family) → Each P (p.told f)) → Each P (told_in p)
told_each p P h =
    each_join P (p.told family.B) (p.told (family.Extra extra.K) ++ p.told (family.Extra extra.N)) (h family.B)
    (each_join P (p.told (family.Extra extra.K)) (p.told (family.Extra extra.N)) (h (family.Extra extra.K)) (h (family.Extra extra.N)))

each_told : (p : Parts) (P : List ℕ → Type 0) → Each P (told_in p) → (f : Family) → Each P (p.told f)
each_told p P h =
    let b = each_cut P (p.told family.B) (p.told (family.Extra extra.K) ++ p.told (family.Extra extra.N)) h in
    let x = each_cut P (p.told (family.Extra extra.K)) (p.told (family.Extra extra.N)) b.1 in
    every (λ f. Each P (p.told f)) b.0 x.0 x.1

module _ {seal : Seal} {p : Parts} {date : Date} {layouts : Layouts} {times : List ℕ} (w : Keeps seal p date layouts times) where
  abbrev pub front : List (List ℕ)
  front = p.recorder ∷ p.day ∷ (p.headers ++ told_in p)

  abbrev pub back : List (List ℕ)
  back = p.seals ++ p.remarks

  pub in_three : lines_in p ≡ front ++ (p.body ++ back)
  in_three = simp append_assoc

  pub front_aside : Each Aside front
  unfolding is_among bytes
  front_aside = (
    rw w.recorder.letter,
    (
      rw w.day.text,
      each_join Aside p.headers (told_in p) (each_map p.headers (λ l h. rw h.letter) w.headers) (told_each p Aside (λ f. one_aside f (w.told f))),
    ),
  )

  -- G and L lines
  pub back_by : (P : List ℕ → Type 0) → ((l : List ℕ) → IsGLine l → P l) → ((l : List ℕ) → IsLLine l → P l) → Each P back
  back_by P g r = each_join P p.seals p.remarks (each_map p.seals g w.seals) (each_map p.remarks r w.remarks)

  can_tell_of : (f : Family) → IsTold f (layout_of f layouts)
  can_tell_of f = told f (w.told f)

  front_reads : Each (ReadsLine layouts) front
  unfolding kind_of
  front_reads = (
    idle layouts p.recorder (rw w.recorder.letter),
    (
      idle layouts p.day (rw w.day.text),
      each_join (ReadsLine layouts) p.headers (told_in p) (each_map p.headers (λ l h. idle layouts l (rw h.letter)) w.headers)
          (told_each p (ReadsLine layouts) (λ f. one_by f (w.told f) (λ l. layout_reads layouts l f))),
    ),
  )

  keeps_reads : Each (ReadsLine layouts) (lines_in p)
  unfolding kind_of
  keeps_reads =
      subst (Each (ReadsLine layouts)) (sym in_three)
      (each_join (ReadsLine layouts) front (p.body ++ back) front_reads
      (each_join (ReadsLine layouts) p.body back (body_reads layouts can_tell_of w.body)
      (back_by (ReadsLine layouts) (λ l h. idle layouts l (rw h.letter)) (λ l h. idle layouts l (rw h.letter)))))

  -- where no line tells a layout, it is empty
  untold : (f : Family) → Each (λ l. get_or l 0 0 ≡ layout_letter f → ⊥) (lines_in p) → layout_of f layouts ≡ empty_layout
  untold f h = none_told f (w.told f) (each_told p _ (each_cut _ (told_in p) _ (each_cut _ p.headers _ h.1.1).1).0 f)

  keeps_declares : ReadsDeclaration (lines_in p)
  keeps_declares =
      subst ReadsDeclaration (sym in_three)
      (body_declares layouts can_tell_of front back (each_map front aside_no_c front_aside)
      (back_by NoC (λ l h e. omega (arith, h.letter)) (λ l h e. omega (arith, h.letter))) w.body)

-- ---- the theorem

-- the good lines have their entries, whatever comes behind them
pub entered : (seal : Seal) (file table : List ℕ) (ls : List (List ℕ)) (k : Lines) → lines_of file ≡ before ls k → good_in seal file table ≡ length ls → length ls ≤ length table → Entered ls table (table_after seal file table)
entered seal file table ls k e g h = record {
  entries = λ n i. entry_put seal file table n 0 (rw g i) ∙ ap (λ x. get_or (offsets 0 x) n 0) e ∙ offset_is k ls 0 n i ∙ zero-add (total (take n ls));
  unchanged = λ n i. entry_kept seal file table n 0 (rw g i);
  long = table_length seal file table;
  room = h;
}

-- what can be read from an accepted file, by the layouts of the answer
pub readable : (seal : Seal) (file table : List ℕ) (f : Flight) → verdict seal file (Some (length table)) ≡ says f → Readable seal file table f
unfolding good_lines
readable seal file table f e =
    let w = (accepted_as seal file (Some (length table)) f).0 e in
    let m = w.0 in
    let ls : List (List ℕ) = lines_in m.parts in
    let c = lines_cut file m in
    let t = lines_are file m in
    let n : f.lines ≡ length ls = sym (ap (λ x. x.lines) w.2) in
    let g : good_in seal file table ≡ f.lines = rw e in
    let here : (i : ℕ) → i + 1 - 1 ≡ i = λ i. omega arith in
    let number : (i : ℕ) → i < length ls → Numbered seal file table (i + 1) = λ i h. line_by_number seal file table (i + 1) (omega arith) (omega arith) in
    let text : (i : ℕ) → text_of file (i + 1) ≡ get_or ls i [] = λ i. ap (λ x. get_or x (i + 1 - 1) []) t ∙ ap (λ x. get_or ls x []) (here i) in
    let offset_at : (i : ℕ) → i < length ls → get_or (offsets 0 (lines_of file)) i 0 ≡ total (take i ls) = λ i h. ap (λ x. get_or (offsets 0 x) i 0) c ∙ offset_is end ls 0 i h ∙ zero-add (total (take i ls)) in
    let offset : (i : ℕ) → i < length ls → offset_of file (i + 1) ≡ total (take i ls) = λ i h. ap (λ x. get_or (offsets 0 (lines_of file)) x 0) (here i) ∙ offset_at i h in
    record {
      lines = ls;
      bytes = m.bytes;
      texts = m.texts;
      lengths = sym (total_is ls) ∙ ap splitting.total (sym c) ∙ lengths_total file (accepted_whole seal file (Some (length table)) f e);
      counted = n;
      counts = λ g. sym (ap (λ (x : Flight). count_of g x.counts) w.2) ∙ every (λ f. count_of f (flight_of m).counts ≡ beginning (line_letter f) ls) refl refl refl g;
      entered = entered seal file table ls end c (g ∙ n) (leb-true _ _ w.1);
      bounds = λ i h. (number i h).bounds ∙ ap₂ (λ o x. says (record { from = o; to = o + length x })) (offset i h) (text i);
      numbered = λ i h. (number i h).bytes ∙ text i;
      stepping = steps_over file ls 0 (subst (splitting.Steps file 0) c (steps file));
      date = subst (λ (x : Flight). ReadsValue date_said IsDateLine x.date m.parts.day) w.2 (record { is = m.keeps.day; reads = (date_exactly m.date m.parts.day).1 m.keeps.day });
      reads = subst (λ (x : Flight). Each (ReadsLine x.layouts) ls) w.2 (keeps_reads m.keeps);
      untold = λ g h. subst (λ (x : Flight). layout_of g x.layouts ≡ empty_layout) w.2 (untold m.keeps g h);
      layouts = λ g. subst (λ (x : Flight). ReadsLayout g (layout_of g x.layouts)) w.2 (by_layout.layout_reads g (layout_of g m.layouts) (can_tell_of m.keeps g));
      presence = subst (λ (x : Flight). ReadsPresence x.layouts.b) w.2 (presence_reads m.layouts.b (can_tell_of m.keeps family.B));
      declaration = keeps_declares m.keeps;
    }
