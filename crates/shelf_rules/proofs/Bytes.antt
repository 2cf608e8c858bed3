-- Words and bodies in a buffer, and what a store of bytes leaves of them. Assumes nothing.
use Prim.Native.Nat.{ℕ, zero, suc, ◌+◌, ◌≤◌, ◌<◌}
use mathlib.Core.List.{List, [], ◌∷◌}
use mathlib.Core.Logic.{◌⊎◌, inl, inr}
use mathlib.Core.Path.{◌≡◌, refl, sym, ◌∙◌}
use native.Mathlib.Omega.{arith}
use lib.ListN.{length, get_or, take, drop, set, length-set, length-take, length-drop}
use lib.Seq.{sets, length-sets, get_or-set_same, get_or-set_other, get_or-take, get_or-drop, ext_get_or}
use Rattle.shelf_rules.specs.Contents.{word, word_bytes, slot_bytes}
use Rattle.shelf_rules.specs.declared.Slot.{Slot}

-- ---- a byte after a store

-- outside what is stored
pub get_d_sets_out : (l : List ℕ) (at : ℕ) (t : List ℕ) (i : ℕ) → (i < at) ⊎ (at + length t ≤ i) → get_or (sets l at t) i 0 ≡ get_or l i 0
get_d_sets_out l at [] i h = refl
get_d_sets_out l at (x ∷ t) i (inl h) = get_d_sets_out (set l at x) (suc at) t i (inl (omega arith)) ∙ get_or-set_other l at i x 0 (λ e. omega arith)
get_d_sets_out l at (x ∷ t) i (inr h) = get_d_sets_out (set l at x) (suc at) t i (inr (omega arith)) ∙ get_or-set_other l at i x 0 (λ e. omega arith)

-- inside
pub get_d_sets_in : (l : List ℕ) (at : ℕ) (t : List ℕ) (i : ℕ) → at + length t ≤ length l → i < length t → get_or (sets l at t) (at + i) 0 ≡ get_or t i 0
get_d_sets_in l at [] i h p = absurd (omega arith)
get_d_sets_in l at (x ∷ t) zero h p =
    let e : at + 0 ≡ at = omega arith in
    rw e (get_d_sets_out (set l at x) (suc at) t at (inl (omega arith)) ∙ get_or-set_same l at x 0 (omega arith))
get_d_sets_in l at (x ∷ t) (suc i) h p =
    let e : at + suc i ≡ suc at + i = omega arith in
    rw e (get_d_sets_in (set l at x) (suc at) t i (omega (arith, length-set l at x)) (omega arith))

-- ---- a run of bytes

abbrev pub run : ℕ → ℕ → List ℕ → List ℕ
run at n l = take n (drop at l)

pub length_run : (at n : ℕ) (l : List ℕ) → at + n ≤ length l → length (run at n l) ≡ n
length_run at n l h = simp (length-take, length-drop) (omega arith)

-- runs are the same where their bytes are
pub run_same : (at at' n : ℕ) (l l' : List ℕ) → at + n ≤ length l → at' + n ≤ length l'
    → ((i : ℕ) → i < n → get_or l (at + i) 0 ≡ get_or l' (at' + i) 0) → run at n l ≡ run at' n l'
run_same at at' n l l' h h' f =
    ext_get_or 0 (run at n l) (run at' n l') (length_run at n l h ∙ sym (length_run at' n l' h')) λ i p.
    let q : i < n = omega (arith, length_run at n l h) in
    get_or-take n (drop at l) i 0 q ∙ get_or-drop at l i 0 ∙ f i q ∙ sym (get_or-drop at' l' i 0) ∙ sym (get_or-take n (drop at' l') i 0 q)

-- what is stored stands there
pub run_stored : (l : List ℕ) (at : ℕ) (t : List ℕ) → at + length t ≤ length l → run at (length t) (sets l at t) ≡ t
run_stored l at t h =
    let z : at + length t ≤ length (sets l at t) = rw length-sets h in
    ext_get_or 0 (run at (length t) (sets l at t)) t (length_run at (length t) (sets l at t) z) λ i p.
    let q : i < length t = omega (arith, length_run at (length t) (sets l at t) z) in
    get_or-take (length t) (drop at (sets l at t)) i 0 q ∙ get_or-drop at (sets l at t) i 0 ∙ get_d_sets_in l at t i h q

pub run_kept : (l : List ℕ) (at : ℕ) (t : List ℕ) (a n : ℕ) → a + n ≤ length l → (a + n ≤ at) ⊎ (at + length t ≤ a) → run a n (sets l at t) ≡ run a n l
run_kept l at t a n h (inl g) = run_same a a n (sets l at t) l (rw length-sets h) h λ i p. get_d_sets_out l at t (a + i) (inl (omega arith))
run_kept l at t a n h (inr g) = run_same a a n (sets l at t) l (rw length-sets h) h λ i p. get_d_sets_out l at t (a + i) (inr (omega arith))

-- ---- words

-- a word told by its bytes
pub word_same : (l l' : List ℕ) (at at' : ℕ) → ((i : ℕ) → i < 4 → get_or l (at + i) 0 ≡ get_or l' (at' + i) 0) → word l at ≡ word l' at'
unfolding word
word_same l l' at at' f =
    let e : at + 0 ≡ at = omega arith in
    let e' : at' + 0 ≡ at' = omega arith in
    let z : get_or l at 0 ≡ get_or l' at' 0 = rw (e, e') at (f 0 (omega arith)) in
    rw (z, f 1 (omega arith), f 2 (omega arith), f 3 (omega arith))

pub word_kept : (l : List ℕ) (at : ℕ) (t : List ℕ) (a : ℕ) → (a + 4 ≤ at) ⊎ (at + length t ≤ a) → word (sets l at t) a ≡ word l a
word_kept l at t a (inl g) = word_same (sets l at t) l a a λ i p. get_d_sets_out l at t (a + i) (inl (omega arith))
word_kept l at t a (inr g) = word_same (sets l at t) l a a λ i p. get_d_sets_out l at t (a + i) (inr (omega arith))

-- a word among what is stored
pub word_stored : (l : List ℕ) (at : ℕ) (t : List ℕ) (k : ℕ) → at + length t ≤ length l → k + 4 ≤ length t → word (sets l at t) (at + k) ≡ word t k
word_stored l at t k h g = word_same (sets l at t) t (at + k) k λ i p.
    let e : at + k + i ≡ at + (k + i) = omega arith in
    rw e (get_d_sets_in l at t (k + i) h (omega arith))

pub word_bytes_lem : (v : ℕ) → v < 4294967296 → word (word_bytes v) 0 ≡ v
unfolding word word_bytes
word_bytes_lem v h = omega arith

-- a word told by its four bytes
pub word_run : (l : List ℕ) (at v : ℕ) → v < 4294967296 → run at 4 l ≡ word_bytes v → word l at ≡ v
word_run l at v h e =
    word_same l (word_bytes v) at 0
    (λ i p. let z : 0 + i ≡ i = omega arith in rw z (sym (get_or-drop at l i 0) ∙ sym (get_or-take 4 (drop at l) i 0 p) ∙ rw e))
    ∙ word_bytes_lem v h

-- ---- an entry's words, as it is stored

pub slot_length : (s : Slot) → length (slot_bytes s) ≡ 12
unfolding slot_bytes word_bytes
slot_length s = refl

module _ (s : Slot) where
  pub slot_number : s.number < 4294967296 → word (slot_bytes s) 0 ≡ s.number
  unfolding slot_bytes word_bytes word
  slot_number h = omega arith

  pub slot_start : s.start < 4294967296 → word (slot_bytes s) 4 ≡ s.start
  unfolding slot_bytes word_bytes word
  slot_start h = omega arith

  pub slot_size : s.size < 4294967296 → word (slot_bytes s) 8 ≡ s.size
  unfolding slot_bytes word_bytes word
  slot_size h = omega arith
