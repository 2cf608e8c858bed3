-- What `begin` puts, and behind it the pages of the file one after the other, are the whole listing. Assumes nothing.
use Rattle.std.specs.Prelude.{Some}
use Prim.Native.Nat.{ℕ, zero, suc, ◌+◌, ◌-◌, ◌≤◌, ◌<◌}
use mathlib.Core.Bool.{Bool, true, false, cond}
use mathlib.Core.List.{List, [], ◌∷◌, ◌++◌, append_assoc, append-nil}
use mathlib.Core.Path.{◌≡◌, refl, sym, ap, subst, ◌∙◌}
use native.Mathlib.Nat.{add-zero, zero-add}
use native.Mathlib.Omega.{arith}
use borrow.Author.Tests.{le-leb, lt-ltb, le-ltb, leb-true, leb-false, eqb-true}
use Prim.Native.Char.{code}
use lib.Dec.{leb, ltb, eqb}
use lib.ListN.{length, get_or, take, drop, length-drop}
use Rattle.rules.specs.Choice.{need, Each}
use Rattle.rules.specs.Refusals.{Said, says, refuses, no, value_or}
use Rattle.rules.specs.Layouts.{allowed}
use Rattle.rules.specs.Split.{Lines, end, broken, line, lines_of, offsets}
use Rattle.rules.specs.Fixes.{fields_of}
use Rattle.rules.specs.Reads.{fields_said}
use Rattle.rules.specs.Lines.{fix_fields}
use Rattle.rules.specs.Order.{no_flight}
use Rattle.rules.specs.Files.{verdict, table_after, good_lines}
use Rattle.rules.specs.Listing.{ok_text, line_shown, fixes_shown, listed_as, listing}
use Rattle.rules.specs.declared.Reason.TheVariants.{BadValue, InputOver}
use Rattle.rules.specs.declared.Layout.{Layout}
use Rattle.rules.specs.declared.Family.TheVariants as family
use Rattle.rules.specs.declared.Flight.{Flight}
use Rattle.rules.specs.declared.Seal.{Seal}
use Rattle.rules.specs.declared.Seal.TheVariants as seal
use Rattle.text_pieces.proofs.Callers.{shown_text}
use Rattle.rules.proofs.Inverse.{need_inv, refuses_says}
use Rattle.rules_trips.proofs.Columned.{by_said}
use Rattle.rules_trips.proofs.Fixes.{fields_said_lem, fix_front, fix_fields_lem}
use Rattle.rules_laws.proofs.Splitting.{Whole, texts_of, line_at, none_left}
use Rattle.rules_laws.proofs.Counted.{lines_counted, entry_put, line_by_number}
use Rattle.rules_laws.proofs.Counted as counted
use Rattle.grammar.specs.Readings.{ReadsFix, ReadsLine}
use Rattle.grammar.proofs.EachLine.{fix_alone}
use Rattle.grammar.proofs.Demands.{readable}
use Rattle.text_block.specs.Blocks.{end_of, text_at, printed, Leaf, leaf, before, printed_at, leaf_from, leaf_at, joined}
use Rattle.igc_list.specs.First.{opened, first_line, Begins}
use Rattle.igc_list.specs.declared.first.Begun.{Begun}

module _ (file table : List ℕ) (lines : ℕ) (layout : Layout) where
  abbrev printed_for : ℕ → List ℕ
  printed_for passed = printed_at file table lines layout passed

  -- what is printed for `k` lines, one after the other
  abbrev all_printed : ℕ → ℕ → List ℕ
  all_printed zero passed = []
  all_printed (suc k) passed = printed_for passed ++ all_printed k (passed + 1)

  -- ---- the lines of a table of their offsets

  -- the table has these offsets from an entry on
  abbrev Entered : ℕ → ℕ → Lines → Type 0
  Entered passed at ls = (i : ℕ) → i < length (texts_of ls) → get_or table (passed + i) 0 ≡ get_or (offsets at ls) i 0

  end_there : (ls : Lines) (t : List ℕ) (at passed : ℕ) → at + length t + 2 ≤ length file → lines_of (drop (at + length t + 2) file) ≡ ls → Whole ls
      → passed + suc (length (texts_of ls)) ≡ lines → Entered passed at (line t ls) → end_of table lines passed (length file) ≡ at + length t
  unfolding end_of offsets
  end_there end t at passed h e w c g =
      let none : length file - (at + length t + 2) ≡ 0 = sym (length-drop (at + length t + 2) file) ∙ ap length (none_left (drop (at + length t + 2) file) e) in
      rw (le-ltb (passed + 1) lines (omega arith)) (omega arith)
  end_there (broken n) t at passed h e w c g = absurd w
  end_there (line u ls) t at passed h e w c g =
      rw (lt-ltb (passed + 1) lines (omega arith), g 1 (omega arith)) (omega arith)

  text_there : (ls : Lines) (t : List ℕ) (at passed : ℕ) → lines_of (drop at file) ≡ line t ls → Whole ls → passed + suc (length (texts_of ls)) ≡ lines → Entered passed at (line t ls)
      → text_at file table lines passed ≡ t
  unfolding text_at offsets
  text_there ls t at passed e w c g =
      let l = line_at file at t ls e in
      let from : get_or table passed 0 ≡ at = rw add-zero at (g 0 (omega arith)) in
      let to = end_there ls t at passed l.inside l.after w c g in
      rw (from, to, le-leb at (at + length t) (omega arith), le-leb (at + length t) (length file) (omega (arith, l.inside))) l.text

  -- ---- what is printed for each

  -- a line by the fields alone, where a B line has passed all that the check asks of it
  as_read : (passed : ℕ) (t : List ℕ) → (get_or t 0 0 ≡ code "B" → ReadsFix layout t) → printed passed layout t ≡ line_shown (passed + 1) layout t (fields_said family.B t layout)
  unfolding printed line_shown
  as_read passed t reads = by (eqb (get_or t 0 0) (code "B")) refl
    where
      by : (b : Bool) → eqb (get_or t 0 0) (code "B") ≡ b → (need b [] λ _. line_shown (passed + 1) layout t (fix_fields t)) ≡ line_shown (passed + 1) layout t (fields_said family.B t layout)
      by false e = rw e
      by true e =
          let r = reads (eqb-true (get_or t 0 0) (code "B") e) in
          let v = fields_of r.fix in
          let said = fix_fields_lem t layout r.fix (fix_alone t layout _ r.reads) in
          let c = (fix_front.passes layout t v).0 (by_said family.B t layout v said).2 in
          ap (line_shown (passed + 1) layout t) (fields_said_lem t v c.fields ∙ sym said)

  abbrev Read : Lines → Type 0
  Read ls = (i : ℕ) → i < length (texts_of ls) → get_or (get_or (texts_of ls) i []) 0 0 ≡ code "B" → ReadsFix layout (get_or (texts_of ls) i [])

  -- the lines that are left
  lines_printed : (ls : Lines) (at passed : ℕ) → lines_of (drop at file) ≡ ls → Whole ls → passed + length (texts_of ls) ≡ lines → Entered passed at ls → Read ls
      → all_printed (length (texts_of ls)) passed ≡ fixes_shown (passed + 1) layout ls
  unfolding fixes_shown printed_at offsets
  lines_printed end at passed e w c g r = refl
  lines_printed (broken n) at passed e w c g r = absurd w
  lines_printed (line t ls) at passed e w c g r =
      let l = line_at file at t ls e in
      let later : Entered (passed + 1) (at + length t + 2) ls = λ i h. ap (λ (n : ℕ). get_or table n 0) (one_on passed i) ∙ g (suc i) (omega (arith, h)) in
      rw (text_there ls t at passed e w c g, as_read passed t (r 0 (omega arith)))
      (ap (λ (r : List ℕ). line_shown (passed + 1) layout t (fields_said family.B t layout) ++ r) (lines_printed ls (at + length t + 2) (passed + 1) l.after w (omega arith) later (λ i h. r (suc i) (omega (arith, h)))))
    where
      one_on : (n i : ℕ) → n + 1 + i ≡ n + suc i
      one_on n i = omega arith

  -- ---- page by page

  -- a page and what is printed for the lines behind it
  record Parted (k passed : ℕ) (s : Leaf) : Type 0 where
    text : s.text ++ all_printed (lines - s.next) s.next ≡ all_printed k passed
    on : passed ≤ s.next

  module _ (room : ℕ) where
    parted : (k passed used : ℕ) → passed + k ≡ lines → Parted k passed (leaf_from file table lines layout room k passed used)
    unfolding leaf_from
    parted zero passed used c =
        let z : lines - passed ≡ 0 = omega arith in record { text = rw z; on = omega arith }
    parted (suc k) passed used c = by (ltb room (used + 4096)) (parted k (passed + 1) (used + length (printed_for passed)) (omega arith))
      where
        by : (b : Bool) {s : Leaf} → Parted k (passed + 1) s → Parted (suc k) passed (cond b (leaf [] passed) (before (printed_for passed) s))
        by true {s} p = let z : lines - passed ≡ suc k = omega arith in record { text = rw z; on = omega arith }
        by false {s} p = record {
          text = append_assoc (printed_for passed) s.text (all_printed (lines - s.next) s.next) ∙ ap (λ (r : List ℕ). printed_for passed ++ r) p.text;
          on = omega (arith, p.on);
        }

    module _ (enough : 4096 ≤ room) where
      -- each page passes a line at least
      moves : (k passed : ℕ) → passed + suc k ≡ lines → passed < (leaf_from file table lines layout room (suc k) passed 0).next
      unfolding leaf_from
      moves k passed c =
          let free : ltb room (0 + 4096) ≡ false = le-ltb room (0 + 4096) (omega arith) in
          rw free (omega (arith, (parted k (passed + 1) (0 + length (printed_for passed)) (omega arith)).on))

      pages_printed : allowed 36 layout ≡ true → (k passed : ℕ) → lines - passed ≤ k → joined file table lines layout room k passed ≡ all_printed (lines - passed) passed
      unfolding joined leaf_at
      pages_printed ok zero passed h = let z : lines - passed ≡ 0 = omega arith in rw z
      pages_printed ok (suc k) passed h = by (leb lines passed) refl (λ p. pages_printed ok k p)
        where
          one_less : passed < lines → lines - passed ≡ suc (lines - (passed + 1))
          one_less low = omega arith

          page : Leaf
          page = leaf_from file table lines layout room (lines - passed) passed 0

          by : (b : Bool) → leb lines passed ≡ b → ((p : ℕ) → lines - p ≤ k → joined file table lines layout room k p ≡ all_printed (lines - p) p)
              → cond b [] ((leaf_at file table lines layout room passed).text ++ joined file table lines layout room k (leaf_at file table lines layout room passed).next) ≡ all_printed (lines - passed) passed
          by true e later = let z : lines - passed ≡ 0 = omega (arith, leb-true lines passed e) in rw z
          by false e later =
              let low : passed < lines = leb-false lines passed e in
              let more : passed < page.next = rw (one_less low) (moves (lines - (passed + 1)) passed (omega arith)) in
              let p : Parted (lines - passed) passed page = parted (lines - passed) passed 0 (omega arith) in
              rw ok (ap (λ (r : List ℕ). page.text ++ r) (later page.next (omega arith)) ∙ p.text)

  -- ---- a layout that is not allowed reads no fix

  module _ (not_ok : allowed 36 layout ≡ false) where
    no_line : (n : ℕ) (t : List ℕ) → line_shown n layout t (fields_said family.B t layout) ≡ []
    unfolding line_shown
    no_line n t = rw not_ok (by (eqb (get_or t 0 0) (code "B")))
      where
        by : (b : Bool) → line_shown n layout t (need b (no BadValue 0) λ _. no BadValue 0) ≡ []
        by true = refl
        by false = refl

    no_lines : (ls : Lines) (n : ℕ) → fixes_shown n layout ls ≡ []
    unfolding fixes_shown
    no_lines end n = refl
    no_lines (broken k) n = refl
    no_lines (line t ls) n = rw (no_line n t) (no_lines ls (n + 1))

    none_behind : (room k : ℕ) → joined file table lines layout room k lines ≡ []
    unfolding joined
    none_behind room zero = refl
    none_behind room (suc k) = rw (le-leb lines lines (omega arith))

    no_pages : (room k passed : ℕ) → joined file table lines layout room k passed ≡ []
    unfolding joined leaf_at
    no_pages room zero passed = refl
    no_pages room (suc k) passed = rw not_ok (by (leb lines passed))
      where
        by : (b : Bool) → cond b [] ([] ++ joined file table lines layout room k lines) ≡ []
        by true = refl
        by false = none_behind room k

-- ---- the whole listing

back_one : (n : ℕ) → n + 1 - 1 ≡ n
back_one n = omega arith

each_at : (P : List ℕ → Type 0) (ls : List (List ℕ)) (i : ℕ) → i < length ls → Each P ls → P (get_or ls i [])
each_at P [] i h p = let z : ⊥ = omega arith in absurd z
each_at P (l ∷ ls) zero h p = p.0
each_at P (l ∷ ls) (suc i) h p = each_at P ls i (omega arith) p.1

-- behind the first line of an accepted file, by its table and what the check said of it
pages_left : (seal : Seal) (file table : List ℕ) (f : Flight) (room : ℕ) → 4096 ≤ room → verdict seal file (Some (length table)) ≡ says f
    → joined file (table_after seal file table) f.lines f.layouts.b room f.lines 0 ≡ fixes_shown 1 f.layouts.b (lines_of file)
unfolding good_lines
pages_left seal file table f room enough e = by (allowed 36 f.layouts.b) refl
  where
    many : f.lines ≡ length (texts_of (lines_of file))
    many = lines_counted seal file (Some (length table)) f e

    there : (i : ℕ) → i < length (texts_of (lines_of file)) → get_or (table_after seal file table) (0 + i) 0 ≡ get_or (offsets 0 (lines_of file)) i 0
    there i h = rw zero-add (entry_put seal file table i 0 (rw e (omega (arith, many))))

    read : (i : ℕ) → i < length (texts_of (lines_of file)) → get_or (get_or (texts_of (lines_of file)) i []) 0 0 ≡ code "B" → ReadsFix f.layouts.b (get_or (texts_of (lines_of file)) i [])
    read i h =
        let r = readable seal file table f e in
        let low : i < length r.lines = omega (arith, many, r.counted) in
        let same : get_or r.lines i [] ≡ get_or (texts_of (lines_of file)) i [] = sym (r.numbered i low) ∙ (line_by_number seal file table (i + 1) (omega arith) (rw e (omega (arith, many)))).bytes ∙ ap (λ n. get_or (texts_of (lines_of file)) n []) (back_one i) in
        subst (λ (l : List ℕ). get_or l 0 0 ≡ code "B" → ReadsFix f.layouts.b l) same ((each_at (ReadsLine f.layouts) r.lines i low r.reads).columned family.B)

    by : (b : Bool) → allowed 36 f.layouts.b ≡ b
        → joined file (table_after seal file table) f.lines f.layouts.b room f.lines 0 ≡ fixes_shown 1 f.layouts.b (lines_of file)
    by true ok =
        let all : f.lines - 0 ≡ length (texts_of (lines_of file)) = omega (arith, many) in
        pages_printed file (table_after seal file table) f.lines f.layouts.b room enough ok f.lines 0 (omega arith)
        ∙ rw all (lines_printed file (table_after seal file table) f.lines f.layouts.b (lines_of file) 0 0 refl (counted.accepted_whole seal file (Some (length table)) f e) (omega (arith, many)) there read)
    by false not_ok = no_pages file (table_after seal file table) f.lines f.layouts.b not_ok room f.lines 0 ∙ sym (no_lines file (table_after seal file table) f.lines f.layouts.b not_ok (lines_of file) 1)

module _ (seal : Seal) (most : ℕ) (file table : List ℕ) (room : ℕ) (enough : 4096 ≤ room) where
  abbrev kept : List ℕ
  kept = cond (leb (length file) most) (table_after seal file table) table

  abbrev lefts : Said Flight → List ℕ
  lefts s = joined file kept (value_or no_flight s).lines (value_or no_flight s).layouts.b room (value_or no_flight s).lines 0

  accepted_pages : (f : Flight) → opened seal most file (length table) ≡ says f → lefts (says f) ≡ fixes_shown 1 f.layouts.b (lines_of file)
  unfolding opened
  accepted_pages f e =
      let a = need_inv (leb (length file) most) (no InputOver 0) (says f) (λ _. verdict seal file (Some (length table))) refuses_says e in
      rw a.0 (pages_left seal file table f room enough a.1)

  listed_by : (s : Said Flight) → opened seal most file (length table) ≡ s → first_line s ++ lefts s ≡ listed_as file s
  unfolding first_line listed_as joined
  listed_by (says f) e = ap (λ x. ok_text f ++ x) (accepted_pages f e)
  listed_by (refuses n l b) e = append-nil _

-- The OK line of an accepted file and behind it the pages that blocks of a size take, by its table and what the check said of it, are its listing: a block for each
-- line at most, and each of 4,096 bytes at least.
pub accepted_whole : (seal : Seal) (file table : List ℕ) (f : Flight) (room : ℕ) → 4096 ≤ room → verdict seal file (Some (length table)) ≡ says f
    → ok_text f ++ joined file (table_after seal file table) f.lines f.layouts.b room f.lines 0 ≡ listed_as file (verdict seal file (Some (length table)))
unfolding listed_as
accepted_whole seal file table f room enough e = rw e (ap (λ x. ok_text f ++ x) (pages_left seal file table f room enough e))

-- What `begin` put, and behind it the pages from the first on, a block for each line at most, are the listing of the file.
pub listed_whole : (seal : Seal) (most : ℕ) (file table out : List ℕ) (r : Begun) (entries after : List ℕ) (room : ℕ) → 4096 ≤ room → Begins seal most file table out r entries after
    → take r.count after ++ joined file entries r.lines r.layout room r.lines 0 ≡ listed_as file (opened seal most file (length table))
listed_whole seal most file table out r entries after room enough b =
    rw (shown_text b.shown, b.lines, b.layout, b.entered) (listed_by seal most file table room enough (opened seal most file (length table)) refl)

-- with the most bytes and the room that document 01 gives the listing program, it is `listing`
pub listing_whole : (input table out : List ℕ) (r : Begun) (entries after : List ℕ) (room : ℕ) → length table ≡ 16384 → 4096 ≤ room → Begins seal.Usual 65536 input table out r entries after
    → take r.count after ++ joined input entries r.lines r.layout room r.lines 0 ≡ listing input
unfolding opened listing
listing_whole input table out r entries after room sixteen enough b = listed_whole seal.Usual 65536 input table out r entries after room enough b ∙ rw sixteen
