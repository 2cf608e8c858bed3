-- Each way out of a function that puts a line is that line put; and a block that fills line by line is at each line a part of its page. Assumes nothing.
use Rattle.rules.specs.Refusals.{result_told}
use Rattle.std.specs.Prelude.{Err, Ok, Result}
use Prim.Native.Nat.{ℕ, suc, ◌+◌, ◌-◌, ◌≤◌, ◌<◌, min}
use mathlib.Core.Bool.{Bool, true, false, not, cond}
use mathlib.Core.List.{List, [], ◌∷◌, ◌++◌, append_assoc, append-nil}
use mathlib.Core.Path.{◌≡◌, refl, sym, ap, ◌∙◌}
use native.Mathlib.Numerals.{add-one}
use native.Mathlib.Omega.{arith}
use borrow.Author.Tests.{leb-true, leb-false, lt-ltb, le-ltb, eq-eqb, ne_eqb, ltb-false, not-true, not-false}
use Prim.Native.Char.{code}
use lib.Dec.{leb, ltb}
use lib.ListN.{length, get_or, take, drop, length-append, take-append-drop}
use lib.Seq.{take_all, length-take-le, take-suc, take_at, drop_at, drop-drop, sets-eq, length-sets}
use Rattle.rules.specs.Choice.{need, part}
use Rattle.rules.specs.Layouts.{unused, entries_of, allowed}
use Rattle.rules.specs.Lines.{fix_fields}
use Rattle.rules.specs.Listing.{fix_shown, line_shown}
use Rattle.rules.specs.declared.Refusal.{Refusal}
use Rattle.rules.specs.declared.Entry.{Entry}
use Rattle.rules.specs.declared.Layout.{Layout}
use Rattle.rules.specs.declared.FixFields.{FixFields}
use Rattle.text_pieces.specs.Buffer.{PiecePut}
use Rattle.text_pieces.proofs.Laws.{then, nothing}
use Rattle.text_listing.specs.Lines.{column_line}
use Rattle.text_block.specs.Blocks.{end_of, text_at, printed, column_lines, Leaf, leaf, before, printed_at, leaf_from, leaf_at, LeafPut, LinesFilled, Filled}
use Rattle.text_block.specs.declared.Page.{Page}
use Rattle.text_block.proofs.Spelt.{lines_shown, printed_room}

-- ---- where a line stands

module _ (file table : List ℕ) (lines passed from to : ℕ) (f : from ≡ get_or table passed 0) (t : to ≡ end_of table lines passed (length file)) where
  pub stands : (need (leb from to) [] λ _. need (leb to (length file)) [] λ _. part from to file) ≡ text_at file table lines passed
  unfolding text_at
  stands = rw (← f, ← t)

module _ (table : List ℕ) (lines passed size : ℕ) where
  pub ends_next : (n r : ℕ) → passed + 1 < lines → n ≡ get_or table (passed + 1) 0 → r ≡ n - 2 → r ≡ end_of table lines passed size
  unfolding end_of
  ends_next n r h e g = rw (lt-ltb (passed + 1) lines h, ← e) g

  pub ends_last : (r : ℕ) → lines ≤ passed + 1 → r ≡ size - 2 → r ≡ end_of table lines passed size
  unfolding end_of
  ends_last r h g = rw (le-ltb (passed + 1) lines h) g

-- ---- the columns

-- a layout value has 13 slots
pub all_slots : (layout : Layout) → length layout.entries ≡ 13 → take (min layout.count 13) layout.entries ≡ entries_of layout
all_slots layout slots = by (leb layout.count 13) refl
  where
    by : (t : Bool) → leb layout.count 13 ≡ t → take (min layout.count 13) layout.entries ≡ take layout.count layout.entries
    by true e = let n : min layout.count 13 ≡ layout.count = omega (arith, leb-true layout.count 13 e) in rw n
    by false e =
        let h : 13 < layout.count = leb-false layout.count 13 e in
        let n : min layout.count 13 ≡ 13 = omega arith in
        rw (n, take_all 13 layout.entries (omega (arith, slots)), take_all layout.count layout.entries (omega (arith, slots)))

line_more : (l : List ℕ) (es : List Entry) (e : Entry) → column_lines l (es ++ (e ∷ [])) ≡ column_lines l es ++ column_line l e
unfolding column_lines
line_more l [] e = append-nil _
line_more l (x ∷ es) e = ap (λ (r : List ℕ). column_line l x ++ r) (line_more l es e) ∙ sym (append_assoc (column_line l x) (column_lines l es) (column_line l e))

module _ (l : List ℕ) (out : List ℕ) (at : ℕ) where
  pub no_columns_lem : PiecePut out at (column_lines l []) at out
  unfolding column_lines
  no_columns_lem = nothing out at

  pub column_more : (es : List Entry) (mid after : List ℕ) (i m r : ℕ) → i < length es → PiecePut out at (column_lines l (take i es)) m mid → PiecePut mid m (column_line l (get_or es i unused)) r after
      → PiecePut out at (column_lines l (take (i + 1) es)) r after
  column_more es mid after i m r h p q = rw (add-one, take-suc es i unused h, line_more l (take i es) (get_or es i unused)) (then p q)

-- ---- a line

module _ (passed : ℕ) (l : List ℕ) (layout : Layout) (out : List ℕ) (at : ℕ) where
  pub no_b : (b : ℕ) → b ≡ get_or l 0 0 → (b ≡ code "B" → ⊥) → PiecePut out at (printed passed layout l) at out
  unfolding printed
  no_b b e h = rw (← e, ne_eqb b 66 h) (nothing out at)

  module _ (b : ℕ) (e : b ≡ get_or l 0 0) (h : b ≡ code "B") (r : Result FixFields Refusal) (g : result_told r ≡ fix_fields l) where
    pub no_fix : (w : Refusal) → r ≡ Err w → PiecePut out at (printed passed layout l) at out
    unfolding printed line_shown result_told
    no_fix w is = rw (← e, eq-eqb b 66 h, ← g, is) (nothing out at)

    pub a_fix : (f : FixFields) (mid after : List ℕ) (m n : ℕ) → allowed 36 layout ≡ true → r ≡ Ok f → PiecePut out at (fix_shown (passed + 1) f) m mid
        → PiecePut mid m (column_lines l (entries_of layout)) n after → PiecePut out at (printed passed layout l) n after
    unfolding printed line_shown result_told
    a_fix f mid after m n ok is p q = rw (← e, eq-eqb b 66 h, ← g, is, ← lines_shown l layout ok) (then p q)

-- ---- a block that fills

-- a text for which there is room is put whole
put_whole : {now after t : List ℕ} {used r : ℕ} → used + length t ≤ length now → PiecePut now used t r after → r ≡ used + length t
put_whole {now} {after} {t} {used} {r} h f = rw (take_all (length now - used) t (omega arith)) at f.next

-- what stands in it is the front of the page, and what comes is the rest of it
pub record Part (block : List ℕ) (page rest : Leaf) (used : ℕ) (now : List ℕ) : Type 0 where
  pub long : length now ≡ length block
  pub within : used ≤ length now
  pub told : page ≡ before (take used now) rest
  pub kept : drop used now ≡ drop used block

pub part_first : (block : List ℕ) (page : Leaf) → Part block page page 0 block
part_first block page = record { long = refl; within = omega arith; told = refl; kept = refl }

pub part_next : (block now after : List ℕ) (page rest : Leaf) (t : List ℕ) (used r : ℕ) → Part block page (before t rest) used now → PiecePut now used t r after → used + length t ≤ length now
    → Part block page rest r after
part_next block now after page rest t used r p f h =
    let all = take_all (length now - used) t (omega arith) in
    let n : r ≡ used + length t = put_whole h f in
    let e : after ≡ take used now ++ t ++ drop (used + length t) now = rw all at f.bytes ∙ sets-eq t now used h in
    let front : length (take used now ++ t) ≡ r = simp length-append (omega (arith, n, length-take-le used now p.within)) in
    let m : used + length t ≡ r = sym n in
    record {
      long = ap length (rw all at f.bytes) ∙ length-sets now used t ∙ p.long;
      within = omega (arith, n, h, ap length (rw all at f.bytes) ∙ length-sets now used t);
      told = p.told ∙ rw (e, take_at (take used now ++ t) (drop (used + length t) now) r front) (ap (λ (x : List ℕ). leaf x rest.next) (sym (append_assoc (take used now) t rest.text)));
      kept = rw (e, drop_at (take used now ++ t) (drop (used + length t) now) r front)
          (sym (drop-drop (length t) used now) ∙ ap (drop (length t)) p.kept ∙ drop-drop (length t) used block ∙ ap (λ (k : ℕ). drop k block) m);
    }

pub part_last : (block now : List ℕ) (page : Leaf) (used next : ℕ) → Part block page (leaf [] next) used now → LeafPut page block (record { used = used; passed = next }) now
part_last block now page used next p =
    let text : page.text ≡ take used now = ap (λ (s : Leaf). s.text) p.told ∙ append-nil (take used now) in
    let count : used ≡ length page.text = rw text (sym (length-take-le used now p.within)) in
    record {
      shown = record { bytes = rw (← count, text, ← p.kept) (sym (take-append-drop used now)); count = count };
      next = sym (ap (λ (s : Leaf). s.next) p.told);
    }

module _ (file table : List ℕ) (lines : ℕ) (layout : Layout) (room next used : ℕ) where
  abbrev rest : Leaf
  rest = leaf_from file table lines layout room (lines - next) next used

  pub none_left : lines ≤ next → rest ≡ leaf [] next
  unfolding leaf_from
  none_left h = let z : lines - next ≡ 0 = omega arith in rw z

  pub one_left : next < lines → rest
      ≡ cond (ltb room (used + 4096)) (leaf [] next) (before (printed_at file table lines layout next) (leaf_from file table lines layout room (lines - (next + 1)) (next + 1) (used + length (printed_at file table lines layout next))))
  unfolding leaf_from
  one_left h = let z : lines - next ≡ suc (lines - (next + 1)) = omega arith in rw z

-- ---- the ways out of the loop, and its turn

module _ (file table : List ℕ) (lines : ℕ) (layout : Layout) (block : List ℕ) (page : Leaf) (now : List ℕ) (next used : ℕ)
    (p : Part block page (leaf_from file table lines layout (length block) (lines - next) next used) used now) where
  pub filled_all : lines ≤ next → LeafPut page block (record { used = used; passed = next }) now
  filled_all h = part_last block now page used next (rw (none_left file table lines layout (length block) next used h) at p)

  module _ (h : next < lines) (t : Bool) (e : t ≡ ltb (length now) (used + 4096)) where
    asked : t ≡ ltb (length block) (used + 4096)
    asked = e ∙ ap (λ (n : ℕ). ltb n (used + 4096)) p.long

    pub filled_full : t ≡ true → LeafPut page block (record { used = used; passed = next }) now
    filled_full g = part_last block now page used next (rw (one_left file table lines layout (length block) next used h, ← asked, g) at p)

    pub filled_more : (l after : List ℕ) (r : ℕ) → allowed 36 layout ≡ true → t ≡ false → l ≡ text_at file table lines next → PiecePut now used (printed next layout l) r after
        → Part block page (leaf_from file table lines layout (length block) (lines - (next + 1)) (next + 1) r) r after
    unfolding printed_at
    filled_more l after r ok g is f =
        let same : printed next layout l ≡ printed_at file table lines layout next = printed_there l is in
        let f' : PiecePut now used (printed_at file table lines layout next) r after = rw same at f in
        let most : length (printed_at file table lines layout next) ≤ 4096 = rw (← same) (printed_room next layout l ok) in
        let room : used + 4096 ≤ length now = ltb-false (length now) (used + 4096) (sym e ∙ g) in
        let q = rw (one_left file table lines layout (length block) next used h, ← asked, g) at p in
        let n : used + length (printed_at file table lines layout next) ≡ r = sym (put_whole (omega arith) f') in
        rw n at (part_next block now after page _ (printed_at file table lines layout next) used r q f' (omega arith))
      where
        printed_there : (l : List ℕ) → l ≡ text_at file table lines next → printed next layout l ≡ printed_at file table lines layout next
        printed_there l is = ap (printed next layout) is

-- ---- a page, by a layout that is allowed or not

module _ (file table : List ℕ) (lines : ℕ) (layout : Layout) (passed : ℕ) (block : List ℕ) (t : Bool) (e : t ≡ allowed 36 layout) where
  pub not_laid : not t ≡ true → Filled file table lines layout passed block (record { used = 0; passed = lines }) block
  unfolding leaf_at
  not_laid g = rw (← e, not-true t g) (record { shown = record { bytes = refl; count = refl }; next = refl })

  pub laid : not t ≡ false → allowed 36 layout ≡ true
  laid g = sym e ∙ not-false t g

  pub laid_filled : (r : Page) (after : List ℕ) → not t ≡ false → LinesFilled file table lines layout passed block r after → Filled file table lines layout passed block r after
  unfolding leaf_at
  laid_filled r after g s = rw (laid g) s
