-- Three numbers of an entry stored behind others. Assumes nothing.
use Prim.Native.Nat.{ℕ, zero, suc, ◌+◌, ◌*◌, ◌<◌}
use mathlib.Core.List.{List, [], ◌∷◌}
use mathlib.Core.Path.{◌≡◌, refl, sym, ◌∙◌, ap, subst}
use native.Mathlib.Omega.{arith}
use lib.ListN.{length, get_or, take, set, length-set}
use Rattle.rules.specs.Layouts.{unused}
use Rattle.rules.specs.declared.Entry.{Entry}
use Rattle.rules.specs.declared.Layout.{Layout}
use Rattle.c_answers.proofs.Laws.{one_more}
use Rattle.c_entries.specs.Lent.{triples, entry_numbers, with_triple}

-- ---- the numbers of an entry

pub triples_long : (es : List Entry) → length (triples es) ≡ 3 * length es
triples_long [] = refl
triples_long (e ∷ es) = let r = triples_long es in omega arith

pub numbers_long : (es : Layout) → length es.entries ≡ 13 → length (entry_numbers es) ≡ 40
numbers_long es h = let r = triples_long es.entries in omega arith

-- behind one number: the code, the first and the last byte of the entry behind i others
triple_at : (x : ℕ) (es : List Entry) (i : ℕ) → i < length es
    → (get_or (x ∷ triples es) (3 * i + 1) 0 ≡ (get_or es i unused).code) × (get_or (x ∷ triples es) (3 * i + 2) 0 ≡ (get_or es i unused).first) × (get_or (x ∷ triples es) (3 * i + 3) 0 ≡ (get_or es i unused).last)
triple_at x [] i h = absurd (omega arith)
triple_at x (e ∷ es) zero h = (refl, refl, refl)
triple_at x (e ∷ es) (suc i) h =
    let r = triple_at e.last es i (omega arith) in
    let a : 3 * suc i + 1 ≡ suc (suc (suc (3 * i + 1))) = omega arith in
    let b : 3 * suc i + 2 ≡ suc (suc (suc (3 * i + 2))) = omega arith in
    let d : 3 * suc i + 3 ≡ suc (suc (suc (3 * i + 3))) = omega arith in
    (rw a r.0, rw b r.1, rw d r.2)

-- a number that is as it is to be, stored
stored : (l vs : List ℕ) (i x : ℕ) → get_or vs i 0 ≡ x → take i l ≡ take i vs → i < length l → i < length vs → take (i + 1) (set l i x) ≡ take (i + 1) vs
stored l vs i x g e h k = ap (λ y. take (i + 1) (set l i y)) (sym g) ∙ one_more l vs i e h k

pub first_stored : (es : Layout) (list : List ℕ) → length list ≡ 40 → length es.entries ≡ 13 → take 1 (set list 0 es.count) ≡ take 1 (entry_numbers es)
first_stored es list h full = stored list (entry_numbers es) 0 es.count refl refl (omega arith) (omega (arith, numbers_long es full))

-- the list keeps its length
pub triple_kept : (ns : List ℕ) (at : ℕ) (e : Entry) → length (with_triple ns at e) ≡ length ns
triple_kept ns at e =
    length-set (set (set ns at e.code) (at + 1) e.first) (at + 2) e.last ∙ length-set (set ns at e.code) (at + 1) e.first ∙ length-set ns at e.code

-- one entry more is stored
module _ (es : Layout) (list : List ℕ) (i : ℕ) (full : length es.entries ≡ 13) (room : length list ≡ 40) (h : i < 13) (so_far : take (3 * i + 1) list ≡ take (3 * i + 1) (entry_numbers es)) where
  pub three_more : take (3 * (i + 1) + 1) (with_triple list (3 * i + 1) (get_or es.entries i unused)) ≡ take (3 * (i + 1) + 1) (entry_numbers es)
  three_more =
      let e : Entry = get_or es.entries i unused in
      let t = triple_at es.count es.entries i (omega arith) in
      let n = numbers_long es full in
      let p : 3 * i + 1 + 1 ≡ 3 * i + 2 = omega arith in
      let q : 3 * i + 1 + 2 ≡ 3 * i + 3 = omega arith in
      let s : 3 * i + 1 + 2 + 1 ≡ 3 * (i + 1) + 1 = omega arith in
      let r : 3 * i + 1 + 1 + 1 ≡ 3 * i + 1 + 2 = omega arith in
      let l₁ = length-set list (3 * i + 1) e.code in
      let l₂ = length-set (set list (3 * i + 1) e.code) (3 * i + 1 + 1) e.first in
      let one : take (3 * i + 1 + 1) (set list (3 * i + 1) e.code) ≡ take (3 * i + 1 + 1) (entry_numbers es) =
      stored list (entry_numbers es) (3 * i + 1) e.code t.0 so_far (omega arith) (omega arith) in
      let two : take (3 * i + 1 + 1 + 1) (set (set list (3 * i + 1) e.code) (3 * i + 1 + 1) e.first) ≡ take (3 * i + 1 + 1 + 1) (entry_numbers es) =
      stored (set list (3 * i + 1) e.code) (entry_numbers es) (3 * i + 1 + 1) e.first (ap (λ k. get_or (entry_numbers es) k 0) p ∙ t.1) one (omega arith) (omega arith) in
      let three = stored (set (set list (3 * i + 1) e.code) (3 * i + 1 + 1) e.first) (entry_numbers es) (3 * i + 1 + 2) e.last (ap (λ k. get_or (entry_numbers es) k 0) q ∙ t.2)
      (subst (λ k. take k (set (set list (3 * i + 1) e.code) (3 * i + 1 + 1) e.first) ≡ take k (entry_numbers es)) r two) (omega arith) (omega arith) in
      subst (λ k. take k (with_triple list (3 * i + 1) e) ≡ take k (entry_numbers es)) s three
