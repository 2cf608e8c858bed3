-- The grammar by itself, with no check of a file: document 01's file of five lines, and the four of them before its G line, are put together by hand; and what follows a G line in any file that meets it.
-- Assumes nothing.
use Prim.Native.Nat.{ℕ}
use Prim.Native.Char.{code}
use mathlib.Core.Bool.{false, ◌||◌}
use mathlib.Core.List.{List, [], ◌∷◌, ◌++◌, append_assoc}
use mathlib.Core.Path.{◌≡◌, refl, sym, ◌∙◌, ap, subst}
use native.Mathlib.Omega.{arith}
use borrow.Author.Tests.{eqb-false}
use lib.Dec.{lit≤, eqb}
use lib.IntN.{pos}
use lib.ListN.{get_or, drop}
use Rattle.rules.specs.Choice.{bytes, Each}
use Rattle.rules.specs.Families.{line_letter, layout_of}
use Rattle.rules.specs.Degrees.{is_position}
use Rattle.rules.specs.Layouts.{empty_layout}
use Rattle.rules.specs.declared.Entry.{Entry}
use Rattle.rules.specs.declared.Family.{Family}
use Rattle.rules.specs.declared.Family.TheVariants as family
use Rattle.rules.specs.declared.Layouts.{Layouts}
use Rattle.rules.specs.declared.FixFields.{FixFields}
use Rattle.rules.specs.declared.Fix.{Fix}
use Rattle.rules.specs.declared.Seal.{Seal}
use Rattle.rules.specs.declared.Seal.TheVariants as seal
use Rattle.rules.proofs.Computed.{everything, file_of}
use Rattle.rules.proofs.Damaged.{five_lines, five_layout}
use Rattle.rules.proofs.SignedFiles.{four_lines}
use Rattle.rules.specs.Listed.{code_text}
use Rattle.rules.proofs.Inverse.{false_true}
use Rattle.rules.specs.Limits.{is_altitude, good_fix_fields}
use Rattle.rules_trips.proofs.Texts.{are_valid}
use Rattle.grammar_words.proofs.Characters.{codes_exactly, word_exactly}
use Rattle.grammar_words.proofs.Codes.{width_exactly, rule_exactly}
use Rattle.grammar_words.specs.Finer.{OnlyZeros, lad, lod, Zeros, AtLatitude, AtLongitude}
use Rattle.grammar_words.proofs.Values.{fix_exactly}
use Rattle.grammar.specs.Coming.{is_among}
use Rattle.grammar.specs.Grammar.{IsText, july, AtMostOne, absent, given, Timed, columned, event, satellites, Items, done, timed, untimed, Body, undeclared, declared, none, column, without, IsGLine, Parts, SealedBy, Keeps, lines_in, Meets, join_lines}
use Rattle.rules_laws.proofs.Splitting.{lines_are_text}
use Rattle.grammar.proofs.Sections.{text_is}
use Rattle.rules_trips.proofs.Each.{each_map, each_join, each_cut}
use Rattle.rules_sound.proofs.Families.{every, none_pass}
use Rattle.grammar.proofs.Laws.{are_valid_lem}
use Rattle.grammar.proofs.EachLine.{columned_letter, head_said_lem, point_said_lem}
use Rattle.grammar.proofs.Reading.{Aside, other_than, untimed_aside, front, back, in_three, front_aside, back_by}

-- ---- the file of five lines

fxa : Entry
fxa = record { first = 36; last = 38; code = 0x465841 }

siu : Entry
siu = record { first = 39; last = 40; code = 0x534955 }

the_fields : FixFields
the_fields = record {
  time = 43200;
  lat = record { count = 3090000; letter = code "N" };
  lon = record { count = 15000; letter = code "W" };
  validity = code "A";
  pressure = record { metres = pos 100 };
  gnss = record { metres = pos 120 };
}

-- its I line has no columns of finer digits
the_fix : Fix
the_fix = record {
  time = record { count = 43200; decimals = 0 };
  lat = record { count = 3090000; letter = code "N"; decimals = 0 };
  lon = record { count = 15000; letter = code "W"; decimals = 0 };
  validity = code "A";
  pressure = record { metres = pos 100 };
  gnss = record { metres = pos 120 };
}

-- and neither coordinate is at its limit
off_limits : {name : List ℕ} (t : List ℕ) → OnlyZeros (AtLatitude the_fields) (AtLongitude the_fields) name → Zeros t
unfolding the_fields
off_limits t (lad n c) = absurd (omega arith)
off_limits t (lod n c) = absurd (omega arith)

no_column : (name : List ℕ) → (eqb (get_or name 0 0) 70 || eqb (get_or name 0 0) 83) ≡ false → Each (λ e. code_text e.code ≡ name → ⊥) (fxa ∷ siu ∷ [])
unfolding fxa siu
no_column name h = ((λ e. false_true (sym h ∙ rw (← e) refl)), ((λ e. false_true (sym h ∙ rw (← e) refl)), tt))

-- an I line, and neither a J nor an M line
abbrev told_five : Family → List (List ℕ)
told_five = every (λ f. List (List ℕ)) (bytes "I023638FXA3940SIU" ∷ []) [] []

abbrev layouts_five : Layouts
layouts_five = record { b = five_layout; k = empty_layout; n = empty_layout }

-- the five lines, or those before the G line
abbrev parts_with : List (List ℕ) → Parts
unfolding bytes
parts_with gs = record {
  recorder = bytes "AXYZ001";
  day = bytes "HFDTE150724";
  headers = [];
  told = told_five;
  body = bytes "B1200005130000N00015000WA001000012001208" ∷ [];
  seals = gs;
  remarks = [];
}

-- they keep to the rules, where the G lines do
keeps_with : (needs : Seal) (gs : List (List ℕ)) → Each IsGLine gs → SealedBy needs gs → Keeps needs (parts_with gs) (record { day = 15; month = 7; year = 2024 }) layouts_five (43200 ∷ [])
unfolding everything file_of join_lines are_valid fxa siu the_fields the_fix good_fix_fields is_position is_altitude
keeps_with needs gs g s = record {
  recorder = record {
    letter = refl;
    shape = record { long = lit≤ tt; short = lit≤ tt; valid = are_valid_lem (bytes "AXYZ001") refl };
    maker = (codes_exactly (bytes "AXYZ001") 1 3).0 refl;
    serial = (codes_exactly (bytes "AXYZ001") 4 3).0 refl;
  };
  day = record { text = refl; day = record { from = lit≤ tt; to = lit≤ tt; days = 31; month = july; low = lit≤ tt; high = lit≤ tt } };
  headers = tt;
  told = every (λ f. AtMostOne f (layout_of f layouts_five) (told_five f))
      (given (record {
        entries = fxa ∷ siu ∷ [];
        tiles = (
          record { starts = refl; ends = lit≤ tt; spelt = lit≤ tt; word = (word_exactly 0x465841).0 refl; wide = (width_exactly 0x465841 3).0 refl },
          ((λ e. omega arith), tt),
          (record { starts = refl; ends = lit≤ tt; spelt = lit≤ tt; word = (word_exactly 0x534955).0 refl; wide = (width_exactly 0x534955 2).0 refl }, tt, tt),
        );
        text = refl;
        short = lit≤ tt;
        slots = refl;
      }))
      absent
      absent;
  body = undeclared (timed (columned family.B (
    the_fix,
    record {
      plain = the_fields;
      tail = bytes "01208";
      text = refl;
      fields = (fix_exactly the_fields).0 refl;
      columns = column (bytes "012") refl (are_valid_lem (bytes "012") refl) ((rule_exactly 0x465841 (bytes "012")).0 refl) (off_limits (bytes "012"))
          (column (bytes "08") refl (are_valid_lem (bytes "08") refl) ((rule_exactly 0x534955 (bytes "08")).0 refl) (off_limits (bytes "08")) none);
      refines = record {
        time = without (no_column (bytes "TDS") refl) refl refl;
        lat = without (no_column (bytes "LAD") refl) refl refl;
        lat_letter = refl;
        lon = without (no_column (bytes "LOD") refl) refl refl;
        lon_letter = refl;
        validity = refl;
        pressure = refl;
        gnss = refl;
      };
    },
    refl,
  )) done);
  order = tt;
  seals = g;
  sealed = s;
  remarks = tt;
}

-- a G line is what either check asks for
some_sealed : (needs : Seal) (g : List ℕ) → SealedBy needs (g ∷ [])
some_sealed seal.Usual g = tt
some_sealed seal.Strict g = lit≤ tt

pub five_meet : (needs : Seal) → Meets needs five_lines
unfolding everything file_of join_lines are_valid
five_meet needs = record {
  least = lit≤ tt;
  most = lit≤ tt;
  parts = parts_with (bytes "GABC" ∷ []);
  bytes = refl;
  texts =
      let h = lines_are_text five_lines in
      let b : IsText (bytes "B1200005130000N00015000WA001000012001208") = text_is (bytes "B1200005130000N00015000WA001000012001208") h.1.1.1.0 in
      (text_is (bytes "AXYZ001") h.0, (text_is (bytes "HFDTE150724") h.1.0, (text_is (bytes "I023638FXA3940SIU") h.1.1.0, (b, (text_is (bytes "GABC") h.1.1.1.1.0, tt)))));
  date = record { day = 15; month = 7; year = 2024 };
  layouts = layouts_five;
  times = 43200 ∷ [];
  keeps = keeps_with needs (bytes "GABC" ∷ []) (record { letter = refl; shape = record { long = lit≤ tt; short = lit≤ tt; valid = are_valid_lem (bytes "GABC") refl } }, tt) (some_sealed needs (bytes "GABC"));
}

-- the same without the G line
pub four_meet : Meets seal.Usual four_lines
unfolding everything file_of join_lines
four_meet = record {
  least = lit≤ tt;
  most = lit≤ tt;
  parts = parts_with [];
  bytes = refl;
  texts =
      let h = lines_are_text four_lines in
      let b : IsText (bytes "B1200005130000N00015000WA001000012001208") = text_is (bytes "B1200005130000N00015000WA001000012001208") h.1.1.1.0 in
      (text_is (bytes "AXYZ001") h.0, (text_is (bytes "HFDTE150724") h.1.0, (text_is (bytes "I023638FXA3940SIU") h.1.1.0, (b, tt))));
  date = record { day = 15; month = 7; year = 2024 };
  layouts = layouts_five;
  times = 43200 ∷ [];
  keeps = keeps_with seal.Usual [] tt tt;
}

-- ---- "So a B after G is refused, as 000 A2.3.1 demands."

-- a line of another kind than G
abbrev NoG : List ℕ → Type 0
NoG l = get_or l 0 0 ≡ code "G" → ⊥

aside_no_g : (l : List ℕ) → Aside l → NoG l
unfolding is_among bytes
aside_no_g l n = other_than (bytes "BCGKN") l (code "G") refl n

module _ {layouts : Layouts} where
  timed_no_g : {t : ℕ} (l : List ℕ) → Timed layouts t l → NoG l
  timed_no_g {t} l (columned f w) g = eqb-false (line_letter f) (code "G") (none_pass (λ f. eqb (line_letter f) (code "G")) refl f) (sym (columned_letter f (layout_of f layouts) t l w) ∙ g)
  timed_no_g l (event w) g = let e = ap (λ x. get_or x 0 0) w.text in omega arith
  timed_no_g l (satellites w) g = let e = ap (λ x. get_or x 0 0) w.text in omega arith

  items_no_g : {ls : List (List ℕ)} {ts : List ℕ} → Items layouts ls ts → Each NoG ls
  items_no_g done = tt
  items_no_g (timed {l = l} w r) = (timed_no_g l w, items_no_g r)
  items_no_g (untimed {l = l} w r) = (aside_no_g l (untimed_aside w), items_no_g r)

  body_no_g : {ls : List (List ℕ)} {ts : List ℕ} → Body layouts ls ts → Each NoG ls
  body_no_g (undeclared i) = items_no_g i
  body_no_g (declared before hd points after h i no_b w ps c j) =
      each_join NoG before (hd ∷ (points ++ after)) (items_no_g i) (
        (λ g. omega (arith, (head_said_lem h hd w).0)),
        each_join NoG points after (each_map points (λ l v g. omega (arith, (point_said_lem l v).0)) ps) (items_no_g j),
      )

-- where no line of the front is a G line, what stands behind a G line stands behind the front
behind_front : (front back before : List (List ℕ)) (g : List ℕ) (after : List (List ℕ)) → Each NoG front → get_or g 0 0 ≡ code "G"
    → front ++ back ≡ before ++ (g ∷ after) → (between : List (List ℕ)) × (back ≡ between ++ (g ∷ after))
behind_front [] back before g after n k e = (before, e)
behind_front (l ∷ front) back [] g after n k e = absurd (n.0 (ap (λ x. get_or (get_or x 0 []) 0 0) e ∙ k))
behind_front (l ∷ front) back (b ∷ before) g after n k e = behind_front front back before g after n.1 k (ap (drop 1) e)

pub no_b_after_g : {seal : Seal} {file : List ℕ} (m : Meets seal file) (before : List (List ℕ)) (g : List ℕ) (after : List (List ℕ)) → lines_in m.parts ≡ before ++ (g ∷ after)
    → get_or g 0 0 ≡ code "G" → Each (λ l. get_or l 0 0 ≡ code "B" → ⊥) after
no_b_after_g m before g after e k =
    let p = m.parts in
    let w = m.keeps in
    let n : Each NoG (front w ++ p.body) = each_join NoG (front w) p.body (each_map (front w) aside_no_g (front_aside w)) (body_no_g w.body) in
    let s = behind_front (front w ++ p.body) (back w) before g after n k (append_assoc (front w) p.body (back w) ∙ sym (in_three w) ∙ e) in
    let NoB : List ℕ → Type 0 = λ l. get_or l 0 0 ≡ code "B" → ⊥ in
    let b : Each NoB (back w) = back_by w NoB (λ l h e. omega (arith, h.letter)) (λ l h e. omega (arith, h.letter)) in
    (each_cut NoB s.0 (g ∷ after) (subst (Each NoB) s.1 b)).1.1
