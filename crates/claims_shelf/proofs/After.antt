-- After a call: the bytes that changed, that the buffer is a shelf still, and what asking it says. Assumes nothing.
use Prim.Native.Nat.{ℕ, ◌+◌, ◌*◌, ◌-◌, ◌≤◌, ◌<◌}
use mathlib.Core.List.{List, ◌++◌}
use mathlib.Core.Logic.{inl, inr, ◌↔◌}
use mathlib.Core.Path.{◌≡◌, refl, sym, ap, ◌∙◌}
use native.Mathlib.Omega.{arith}
use lib.ListN.{length, get_or, replicate, get_or-replicate}
use lib.Seq.{sets, length-sets}
use Rattle.rules.specs.Refusals.{Said, says, refuses}
use Rattle.shelf_rules.specs.Contents.{number_of, start_of, size_of, slot_of, word_bytes, slot_bytes}
use Rattle.shelf_rules.specs.Shelf.{ask_said, part_of}
use Rattle.shelf_rules.specs.declared.Slot.{Slot}
use Rattle.shelf_rules.proofs.Tests.{by_eq, by_le}
use Rattle.shelf_rules.proofs.Bytes.{run, run_stored, get_d_sets_in, get_d_sets_out, slot_length}
use Rattle.shelf_rules.proofs.Sounds.{once_any}
use Rattle.shelf_rules.proofs.Accepts.{Holds, Adds}
use Rattle.claims_shelf.specs.Weekend.{Among, IsShelf, InUse, HeldIn, Puts, Zeroes}
use Rattle.claims_shelf.proofs.Answers.{by_sum, used_or_not, held_refuses, held_says}
use Rattle.claims_shelf.proofs.Results.{added, add_long, add_run, add_number, add_start, add_size, add_body, add_changed, add_sound, add_others, removed, gone, remove_changed, remove_sound, remove_others}
use Rattle.claims_shelf.proofs.Words.{sound_keeps}

-- ---- asking

-- a flight that is held, and a number that is not
pub ask_held : (b : List ℕ) (x n : ℕ) → HeldIn b x n → ask_said b x ≡ says (slot_of b n)
unfolding ask_said
ask_held b x n w = rw (held_says b x n w)

pub ask_zero : (b : List ℕ) (x : ℕ) → IsShelf b → x ≡ 0 → ask_said b x ≡ refuses 31 0 0
unfolding ask_said
ask_zero b x s z = rw ((held_refuses b x 31 0 0).1 (inr ((refl, refl, refl), s, inl z)))

pub ask_none : (b : List ℕ) (x : ℕ) → IsShelf b → (InUse b x → ⊥) → ask_said b x ≡ refuses 31 0 0
unfolding ask_said
ask_none b x s u = rw ((held_refuses b x 31 0 0).1 (inr ((refl, refl, refl), s, inr u)))

-- two shelves that have a number in the same entry say of it what they say of that entry
pub ask_alike : (P : Said Slot → Said Slot → Type 0) (b c : List ℕ) (x : ℕ) → IsShelf b → IsShelf c
    → ((x ≡ 0 → ⊥) → (n : ℕ) → n < 64 → (number_of b n ≡ x) ↔ (number_of c n ≡ x))
    → ((n : ℕ) → HeldIn b x n → P (says (slot_of c n)) (says (slot_of b n)))
    → P (refuses 31 0 0) (refuses 31 0 0)
    → P (ask_said c x) (ask_said b x)
ask_alike P b c x s t same one none = by_eq x 0
    (λ z. rw (ask_zero b x s z, ask_zero c x t z) none)
    (λ z. by_sum (used_or_not b x)
    (λ u.
    let h : HeldIn b x u.0 = (s, z, u.1, u.2) in
    rw (ask_held b x u.0 h, ask_held c x u.0 (t, z, u.1, (same z u.0 u.1).0 u.2)) (one u.0 h))
    (λ u. rw (ask_none b x s u, ask_none c x t (λ v. u (v.0, v.1, (same z v.0 v.1).1 v.2))) none))

-- the entry and its bytes are the same
abbrev pub Same : List ℕ → List ℕ → Said Slot → Said Slot → Type 0
Same b c v u = (v ≡ u) × (part_of v c ≡ part_of u b)

pub same_slot : (b c : List ℕ) (n : ℕ) → number_of c n ≡ number_of b n → start_of c n ≡ start_of b n → size_of c n ≡ size_of b n → slot_of c n ≡ slot_of b n
same_slot b c n e f g = rw (e, f, g)

-- ---- adding

module _ (b file : List ℕ) (number k at : ℕ) (a : Adds b number file k at) (one : 1 ≤ length file) (w : number < 4294967296) where
  abbrev c : List ℕ
  c = added b file number k at a one w

  abbrev slot : Slot
  slot = record { number = number; start = at; size = length file }

  pub add_keeps : IsShelf c
  add_keeps = sound_keeps c (add_sound b file number k at a one w)

  entry_spelled : run (12 * k) 12 c ≡ word_bytes number ++ (word_bytes at ++ word_bytes (length file))
  unfolding slot_bytes
  entry_spelled =
      let l = slot_length slot in
      let p = a.spot.entry in
      let r = a.sound_shelf.least_room in
      rw l at (run_stored (sets b at file) (12 * k) (slot_bytes slot) (omega (arith, length-sets b at file)))

  pub add_puts : Puts b number file k at c
  add_puts = record {
    long = add_long b file number k at a one w;
    body = add_run b file number k at a one w;
    entry = rw (add_number b file number k at a one w, add_start b file number k at a one w, add_size b file number k at a one w);
    spelled = entry_spelled;
    rest = λ i f g.
        in_entry i g (by_le at i
        (λ h. by_le (at + length file) i (λ j. get_d_sets_out b at file i (inr j)) (λ j. absurd (f (h, j))))
        (λ h. get_d_sets_out b at file i (inl h)));
  }
    where
      in_entry : (i : ℕ) → (Among (12 * k) 12 i → ⊥) → get_or (sets b at file) i 0 ≡ get_or b i 0 → get_or c i 0 ≡ get_or b i 0
      in_entry i g e =
          let l = slot_length slot in
          by_le (12 * k) i
          (λ h. by_le (12 * k + 12) i
          (λ j. get_d_sets_out (sets b at file) (12 * k) (slot_bytes slot) i (inr (omega arith)) ∙ e)
          (λ j. absurd (g (h, j))))
          (λ h. get_d_sets_out (sets b at file) (12 * k) (slot_bytes slot) i (inl h) ∙ e)

  pub add_asked : (ask_said c number ≡ says slot) × (part_of (ask_said c number) c ≡ file)
  add_asked =
      let e = ask_held c number k (add_keeps, a.spot.nonzero, a.spot.entry, add_number b file number k at a one w) in
      (e ∙ ap says add_puts.entry, rw e (add_body b file number k at a one w))

  pub add_same : (x : ℕ) → (x ≡ number → ⊥) → Same b c (ask_said c x) (ask_said b x)
  add_same x d =
      let ch = add_changed b file number k at a one w in
      let e = add_number b file number k at a one w in
      ask_alike (Same b c) b c x (sound_keeps b a.sound_shelf) add_keeps
      (λ z n p. by_eq n k
      (λ q. ((λ f. absurd (z (sym f ∙ rw q a.spot.free))), (λ f. let g : number_of c n ≡ number = rw q e in absurd (d (omega (arith, f, g))))))
      (λ q. let f = ch.number_kept n p q in ((λ g. f ∙ g), (λ g. sym f ∙ g))))
      (λ n h.
      let q : n ≡ k → ⊥ = λ q. h.1 (sym h.3 ∙ rw q a.spot.free) in
      (ap says (same_slot b c n (ch.number_kept n h.2 q) (ch.start_kept n h.2 q) (ch.size_kept n h.2 q)), add_others b file number k at a one w n h.2 q))
      (refl, refl)

-- ---- removing

module _ (b : List ℕ) (number n : ℕ) (h : Holds b number n) where
  abbrev d : List ℕ
  d = removed b number n h

  pub remove_keeps : IsShelf d
  remove_keeps = sound_keeps d (remove_sound b number n h)

  pub remove_zeroes : Zeroes b n d
  remove_zeroes = record {
    long = length-sets b (12 * n) (replicate 12 0);
    entry = λ i w.
        let r = h.sound_shelf.least_room in
        let p = h.entry in
        let e : i ≡ 12 * n + (i - 12 * n) = omega (arith, w.0) in
        rw e (get_d_sets_in b (12 * n) (replicate 12 0) (i - 12 * n) (omega arith) (omega (arith, w.0, w.1)) ∙ get_or-replicate 12 (i - 12 * n) 0 0 (omega (arith, w.0, w.1)));
    rest = λ i g. by_le (12 * n) i
        (λ p. by_le (12 * n + 12) i (λ j. get_d_sets_out b (12 * n) (replicate 12 0) i (inr j)) (λ j. absurd (g (p, j))))
        (λ p. get_d_sets_out b (12 * n) (replicate 12 0) i (inl p));
  }

  pub remove_asked : ask_said d number ≡ refuses 31 0 0
  remove_asked = ask_none d number remove_keeps (λ u. by_eq u.0 n
      (λ q. h.nonzero (sym u.2 ∙ rw q (gone b number n h).0))
      (λ q.
      let e : number_of b u.0 ≡ number = sym ((remove_changed b number n h).number_kept u.0 u.1 q) ∙ u.2 in
      h.nonzero (sym e ∙ once_any h.sound_shelf.kept u.0 n u.1 h.entry q (e ∙ sym h.is))))

  pub remove_same : (x : ℕ) → (x ≡ number → ⊥) → Same b d (ask_said d x) (ask_said b x)
  remove_same x g =
      let ch = remove_changed b number n h in
      ask_alike (Same b d) b d x (sound_keeps b h.sound_shelf) remove_keeps
      (λ z m p. by_eq m n
      (λ q. ((λ f. absurd (g (sym f ∙ rw q h.is))), (λ f. absurd (z (sym f ∙ rw q (gone b number n h).0)))))
      (λ q. let f = ch.number_kept m p q in ((λ e. f ∙ e), (λ e. sym f ∙ e))))
      (λ m w.
      let q : m ≡ n → ⊥ = λ q. g (sym w.3 ∙ rw q h.is) in
      (ap says (same_slot b d m (ch.number_kept m w.2 q) (ch.start_kept m w.2 q) (ch.size_kept m w.2 q)), remove_others b number n h m w.2 q))
      (refl, refl)
