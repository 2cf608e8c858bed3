-- What is put is taken again: of the numbers that a reading's entries are put as, `taken_said` tells those entries. So a look into what a reading left is a look into its entries.
-- Assumes nothing.
use Rattle.std.specs.Prelude.{Some}
use Prim.Native.Nat.{ℕ, ◌+◌, ◌-◌, ◌/◌, ◌%◌, ◌≤◌}
use mathlib.Core.Bool.{true, ◌&&◌}
use mathlib.Core.List.{List, [], ◌∷◌, ◌++◌}
use mathlib.Core.Path.{◌≡◌, refl, sym, ap, subst, ◌∙◌}
use native.Mathlib.Omega.{arith}
use borrow.Author.Tests.{le-leb, leb-true, eq-eqb}
use lib.Dec.{leb}
use lib.ListN.{length, drop, replicate, length-append}
use Rattle.rules.specs.Chars.{is_code}
use Rattle.rules.specs.Choice.{given}
use Rattle.rules.specs.Layouts.{unused, empty_layout, entries_of, is_spelt}
use Rattle.rules.specs.Listed.{is_code_word}
use Rattle.rules.specs.Refusals.{says}
use Rattle.rules.specs.declared.Entry.{Entry}
use Rattle.rules.specs.declared.Layout.{Layout}
use Rattle.rules.proofs.Inverse.{and_inv}
use Rattle.rules_trips.proofs.Laws.{past, byte_here}
use Rattle.rules_trips.proofs.Placing.{Fits}
use Rattle.rules_sound.proofs.Entries.{Tiled, code_range}
use Rattle.rules_sound.proofs.Placed.{laid, with_laid, Sound, allowed_there}
use Rattle.c_entries.specs.Lent.{entries_size, triples, entry_numbers, entry_in, no_entries, taken_from, taken_said}
use Rattle.c_entries.proofs.Laws.{numbers_long}
use Rattle.c_entries.proofs.Taken.{entries_in, taken_entries}

triples_join : (xs ys : List Entry) → triples (xs ++ ys) ≡ triples xs ++ triples ys
triples_join [] ys = refl
triples_join (x ∷ xs) ys = ap (λ (t : List ℕ). x.code ∷ x.first ∷ x.last ∷ t) (triples_join xs ys)

-- a code that three characters make is a number of 32 bits
code_fits : (x : ℕ) → is_code_word x ≡ true → x ≤ 4294967295
unfolding is_code_word
code_fits x h =
    let p = and_inv (is_code (x / 65536) && is_code (x / 256 % 256)) (is_code (x % 256)) h in
    let q = and_inv (is_code (x / 65536)) (is_code (x / 256 % 256)) p.0 in
    omega (arith, (code_range (x / 65536) q.0).1)

-- one entry
entry_back : (ns : List ℕ) (at : ℕ) (e : Entry) (rest : List ℕ) → is_spelt e ≡ true → e.first ≤ e.last → drop at ns ≡ e.code ∷ e.first ∷ e.last ∷ rest → entry_in ns at ≡ Some e
unfolding entry_in is_spelt
entry_back ns at e rest s h d =
    let k = and_inv (leb e.last 99) (is_code_word e.code) s in
    let m = leb-true e.last 99 k.0 in
    let a = byte_here ns at e.code _ d in
    let b = byte_here ns (at + 1) e.first _ (past ns at 1 (at + 1) (e.code ∷ []) _ refl refl d) in
    let c = byte_here ns (at + 2) e.last _ (past ns at 2 (at + 2) (e.code ∷ e.first ∷ []) _ refl refl d) in
    rw (a, b, c, le-leb e.code 4294967295 (code_fits e.code k.1), le-leb e.first 255 (omega arith), le-leb e.last 255 (omega arith))

-- entries one behind the other
entries_back : (es pre : List Entry) (start : ℕ) (ns : List ℕ) (at : ℕ) (rest : List ℕ) → length pre + length es ≤ 13 → Tiled es start (laid pre) → drop at ns ≡ triples es ++ rest
    → entries_in (length es) ns at ≡ Some es
unfolding entries_in
entries_back [] pre start ns at rest n w d = refl
entries_back (e ∷ es) pre start ns at rest n w d =
    let f : Fits start (laid pre) e = w.1 in
    let t = with_laid pre e (omega arith) in
    let r = entries_back es (pre ++ (e ∷ [])) (e.last + 1) ns (at + 3) rest (omega (arith, length-append pre (e ∷ []))) (subst (Tiled es (e.last + 1)) t w.2)
    (past ns at 3 (at + 3) (e.code ∷ e.first ∷ e.last ∷ []) (triples es ++ rest) refl refl d) in
    rw (entry_back ns at e (triples es ++ rest) w.0 f.ends d, r)

-- a layout that a line can tell
pub put_taken : (start : ℕ) (es : Layout) → Sound start es → taken_said (entry_numbers es) ≡ says es
unfolding taken_said
put_taken start es s =
    let a = allowed_there start es s.right s.full in
    let xs = entries_of es in
    let rest : List ℕ = triples (replicate (13 - length xs) unused) in
    let d : drop 1 (entry_numbers es) ≡ triples xs ++ rest = ap (λ (l : Layout). triples l.entries) a.1 ∙ triples_join xs (replicate (13 - length xs) unused) in
    let n : length xs ≡ es.count = a.0.count in
    let t = entries_back xs [] start (entry_numbers es) 1 rest (omega (arith, a.0.few, n)) a.0.tiled d in
    let w = taken_entries (length xs) (entry_numbers es) 1 (omega (arith, a.0.few, n)) ∙ ap (λ o. given o no_entries λ ys. says (laid ys)) t in
    rw (eq-eqb (length (entry_numbers es)) entries_size (numbers_long es s.full), le-leb es.count 13 a.0.few)
    (ap (λ k. taken_from k (entry_numbers es) 1 empty_layout) (sym n) ∙ w ∙ ap says (sym a.1))
