-- The entries of an I, a J or an M line, one behind the other; and that a layout which is allowed can be spelt. Assumes nothing.
use Prim.Native.Nat.{ℕ, zero, suc, ◌+◌, ◌*◌, ◌/◌, ◌%◌, ◌≤◌, ◌<◌}
use mathlib.Core.Bool.{true, ◌&&◌}
use mathlib.Core.List.{List, [], ◌∷◌, ◌++◌, append_assoc, append-nil}
use mathlib.Core.Path.{◌≡◌, refl, sym}
use native.Mathlib.Numerals.{add-one}
use native.Mathlib.Omega.{arith}
use borrow.Author.Tests.{leb-true}
use lib.Dec.{leb}
use lib.ListN.{length, get_or, take, length-append}
use lib.Seq.{get_or-take, length-take-le, take_all}
use Rattle.rules.specs.Families.{layout_letter}
use Rattle.rules.specs.Chars.{is_code}
use Rattle.rules.specs.Numbers.{digits_of}
use Rattle.rules.specs.Listed.{is_code_word}
use Rattle.rules.specs.Layouts.{unused, empty_layout, with_entry, entries_of, placed, is_said, is_spelt, all_placed, allowed}
use Rattle.rules.specs.Writes.{entry_text, entry_texts, layout_text, put_at, crlf}
use Rattle.rules.specs.declared.Entry.{Entry}
use Rattle.rules.specs.declared.Layout.{Layout}
use Rattle.rules.specs.declared.Family.{Family}
use Rattle.rules.proofs.Inverse.{and_inv}
use Rattle.rules.proofs.Texts.{digits_length, entries_length}
use Rattle.rules_values.proofs.Laws.{take_most, code_high}
use Rattle.byte_put.specs.Puts.{Fills}
use Rattle.byte_put.proofs.Laws.{put_last, fills_then, byte_then, digits_then}
use Rattle.write_legend.specs.Spelling.{Spellable}
use Rattle.write_ending.proofs.Laws.{regroup}

more : (es : List Entry) (i : ℕ) → i < length es → entry_texts (take (suc i) es) ≡ entry_texts (take i es) ++ entry_text (get_or es i unused)
unfolding entry_texts
more [] i h = let z : ⊥ = omega arith in search
more (e ∷ es) zero h = append-nil (entry_text e)
more (e ∷ es) (suc i) h = rw (more es i (omega arith)) (sym (append_assoc (entry_text e) (entry_texts (take i es)) _))

-- no entry yet, and all of them
pub entries_none : (out : List ℕ) → Fills out 3 (entry_texts []) out
unfolding entry_texts
entries_none out = record { is = λ h. refl }

pub entries_all : (x out : List ℕ) (l : Layout) (i : ℕ) → i ≡ l.count → Fills out 3 (entry_texts (take i (entries_of l))) x → Fills out 3 (entry_texts (entries_of l)) x
entries_all x out l i e f = rw (e, take_all l.count (entries_of l) (take_most l.count l.entries)) at f

-- one entry more
pub entry_more : (x out l₁ : List ℕ) (l : Layout) (i : ℕ) → i < l.count → l.count ≤ length l.entries → Fills out 3 (entry_texts (take i (entries_of l))) l₁
    → Fills l₁ (3 + 7 * i) (entry_text (get_or l.entries i unused)) x → Fills out 3 (entry_texts (take (i + 1) (entries_of l))) x
entry_more x out l₁ l i h k f g =
    let n : length (entries_of l) ≡ l.count = length-take-le l.count l.entries k in
    let m : length (take i (entries_of l)) ≡ i = length-take-le i (entries_of l) (omega arith) in
    let t : 3 + length (entry_texts (take i (entries_of l))) ≡ 3 + 7 * i = omega (arith, entries_length (take i (entries_of l))) in
    rw (add-one, more (entries_of l) i (omega arith), get_or-take l.count l.entries i unused h)
    (fills_then x out l₁ 3 (entry_texts (take i (entries_of l))) (entry_text (get_or l.entries i unused)) f (rw t g))

-- the whole line: its letter, NN, the entries and CR LF, each put behind the one before
pub layout_filled : (x out l₁ l₂ l₃ : List ℕ) (f : Family) (l : Layout) (b : ℕ) → l.count ≤ length l.entries → b ≡ layout_letter f → l₁ ≡ put_at out 0 (b ∷ [])
    → l₂ ≡ put_at l₁ 1 (digits_of 2 l.count) → Fills l₂ 3 (entry_texts (entries_of l)) l₃ → x ≡ put_at l₃ (3 + 7 * l.count) crlf
    → Fills out 0 (layout_text f l ++ crlf) x
unfolding layout_text
layout_filled x out l₁ l₂ l₃ f l b k e p q g w =
    let n : length (entries_of l) ≡ l.count = length-take-le l.count l.entries k in
    let t : 3 + length (entry_texts (entries_of l)) ≡ 3 + 7 * l.count = omega (arith, entries_length (entries_of l)) in
    let r = fills_then x l₂ l₃ 3 (entry_texts (entries_of l)) crlf g (put_last x l₃ _ crlf (rw t w)) in
    let d = regroup x l₁ 1 (digits_of 2 l.count) (entry_texts (entries_of l)) crlf (digits_then x l₁ l₂ 1 2 l.count _ q r) in
    byte_then x out l₁ 0 (layout_letter f) _ (rw (← e) p) d

pub layout_length : (f : Family) (l : Layout) → l.count ≤ length l.entries → length (layout_text f l) + 2 ≡ 5 + 7 * l.count
unfolding layout_text
layout_length f l k =
    let n : length (entries_of l) ≡ l.count = length-take-le l.count l.entries k in
    rw (length-append, digits_length, entries_length, n) (omega arith)

-- ---- a layout that is allowed has codes of three bytes

small : (x : ℕ) → is_code_word x ≡ true → x < 16777216
unfolding is_code_word
small x e =
    let h = code_high (x / 65536) (and_inv (is_code (x / 65536)) _ (and_inv (is_code (x / 65536) && is_code (x / 256 % 256)) _ e).0).0 in
    omega arith

all_small : (es : List Entry) (start : ℕ) (before : Layout) → all_placed es start before ≡ true → (i : ℕ) → (get_or es i unused).code < 16777216
unfolding all_placed is_spelt
all_small [] start before e i = omega arith
all_small (x ∷ es) start before e zero =
    small x.code (and_inv (leb x.last 99) _ (and_inv (is_spelt x) _ (and_inv (is_spelt x && is_said (placed start before x 0)) _ e).0).0).1
all_small (x ∷ es) start before e (suc i) = all_small es (x.last + 1) (with_entry before x) (and_inv (is_spelt x && is_said (placed start before x 0)) _ e).1 i

pub spells : (start : ℕ) (l : Layout) → allowed start l ≡ true → Spellable l
unfolding allowed
spells start l e =
    let t = and_inv (leb l.count 13) _ (and_inv (leb l.count 13 && all_placed (entries_of l) start empty_layout) _ e).0 in
    record { few = leb-true _ _ t.0; codes = λ i h. rw (get_or-take l.count l.entries i unused h) at (all_small (entries_of l) start empty_layout t.1 i) }
