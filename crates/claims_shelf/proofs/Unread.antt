-- "what a body says isn't looked at again": what each call says, and the table of contents afterwards, follow from the buffer's length and its table of contents. Assumes nothing.
use Rattle.shelf_rules.specs.declared.Extent.{Extent}
use Rattle.rules.specs.declared.Refusal.{Refusal}
use Rattle.std.specs.Prelude.{Result, ⊤}
use Prim.Native.Nat.{ℕ, zero, suc, ◌+◌, ◌*◌, ◌-◌, ◌/◌, ◌≤◌, ◌<◌}
use native.Mathlib.Omega.{arith}
use mathlib.Core.Bool.{Bool, true, not, cond, ◌&&◌}
use mathlib.Core.List.{List}
use mathlib.Core.Logic.{◌⊎◌, inl, inr}
use mathlib.Core.Path.{◌≡◌, refl, sym, ◌∙◌, ap, ap₂}
use lib.Dec.{eqb, leb, ltb}
use lib.ListN.{length, get_or, take, drop, replicate, length-take, length-drop}
use lib.Seq.{sets, length-sets, get_or-take, get_or-drop}
use Rattle.rules.specs.Refusals.{Said, says, refuses, no, and_then, result_told}
use Rattle.rules.specs.declared.Reason.TheVariants as reason
use Rattle.rules.proofs.Inverse.{by_bool, refuses_says}
use Rattle.shelf_rules.specs.Ranges.{least, every}
use Rattle.shelf_rules.specs.Contents.{word, word_bytes, slot_bytes, number_of, start_of, size_of, end_of, slot_of, one_kept, clear, two_kept, pair_kept, slot_sound, sound}
use Rattle.shelf_rules.specs.Packing.{pack_said, before, packed_start, Outside, Packed}
use Rattle.shelf_rules.specs.declared.Spot.{Spot}
use Rattle.shelf_rules.specs.Shelf.{entry_of, clear_of, fits, place_for, usable, spot_for, add_said, after_add, held_at, ask_said, part_of, remove_said, after_remove}
use Rattle.shelf_rules.specs.declared.Slot.{Slot}
use Rattle.shelf_rules.proofs.Accepts.{holds, adds}
use Rattle.shelf_rules.proofs.Bytes.{get_d_sets_out, get_d_sets_in, word_same, slot_length}
use Rattle.shelf_rules.proofs.Ranges.{total_same}
use Rattle.shelf_rules.proofs.Tests.{by_le, by_eq}
use Rattle.shelf_pack.specs.Pack.{ShelfPacked}
use Rattle.shelf_rules.specs.Calls.{extent_of, FlightAdded, FlightAsked, BodyGiven, FlightRemoved}
use Rattle.claims_shelf.specs.Weekend.{SameContents}

-- ---- tests that agree

every_same : (f g : ℕ → Bool) (k : ℕ) → ((n : ℕ) → n < k → f n ≡ g n) → every f k ≡ every g k
unfolding every
every_same f g zero e = refl
every_same f g (suc k) e = ap₂ ◌&&◌ (every_same f g k (λ n h. e n (omega arith))) (e k (omega arith))

least_same : (f g : ℕ → Bool) (at k : ℕ) → ((n : ℕ) → at ≤ n → n < at + k → f n ≡ g n) → least f at k ≡ least g at k
unfolding least
least_same f g at zero e = refl
least_same f g at (suc k) e = rw (e at (omega arith) (omega arith), least_same f g (suc at) k (λ n h l. e n (omega arith) (omega arith)))

-- ---- bytes stored in two buffers

-- where they are the same in both before, they are afterwards
sets_same : (l l' : List ℕ) (at : ℕ) (t : List ℕ) (i : ℕ) → at + length t ≤ length l → at + length t ≤ length l' → get_or l i 0 ≡ get_or l' i 0 → get_or (sets l at t) i 0 ≡ get_or (sets l' at t) i 0
sets_same l l' at t i h h' e =
    by_le at i
    (λ g.
    by_le (at + length t) i
    (λ k. get_d_sets_out l at t i (inr k) ∙ e ∙ sym (get_d_sets_out l' at t i (inr k)))
    (λ k.
    let z : at + (i - at) ≡ i = omega arith in
    let one = get_d_sets_in l at t (i - at) h (omega arith) in
    let two = get_d_sets_in l' at t (i - at) h' (omega arith) in
    (rw z at one) ∙ sym (rw z at two)))
    (λ g. get_d_sets_out l at t i (inl g) ∙ e ∙ sym (get_d_sets_out l' at t i (inl g)))

-- ---- two buffers with one table of contents

module _ (b c : List ℕ) (s : SameContents b c) where
  word_there : (at : ℕ) → at + 4 ≤ 768 → word b at ≡ word c at
  word_there at h = word_same b c at at (λ i k. s.same_bytes (at + i) (omega arith))

  number_there : (n : ℕ) → n < 64 → number_of b n ≡ number_of c n
  number_there n h = word_there (12 * n) (omega arith)

  start_there : (n : ℕ) → n < 64 → start_of b n ≡ start_of c n
  start_there n h = word_there (12 * n + 4) (omega arith)

  size_there : (n : ℕ) → n < 64 → size_of b n ≡ size_of c n
  size_there n h = word_there (12 * n + 8) (omega arith)

  slot_there : (n : ℕ) → n < 64 → slot_of b n ≡ slot_of c n
  slot_there n h = rw (number_there n h, start_there n h, size_there n h)

  slot_sound_there : (n : ℕ) → n < 64 → slot_sound b n ≡ slot_sound c n
  unfolding slot_sound
  slot_sound_there n h =
      ap₂ ◌&&◌
      (ap₂ one_kept s.same_length (slot_there n h))
      (every_same (pair_kept b n) (pair_kept c n) n (λ m k. ap₂ two_kept (slot_there n h) (slot_there m (omega arith))))

  sound_there : sound b ≡ sound c
  unfolding sound
  sound_there = ap₂ (λ (room : ℕ) (kept : Bool). leb 768 room && (leb room 16777216 && kept)) s.same_length (every_same (slot_sound b) (slot_sound c) 64 slot_sound_there)

  entry_there : (number : ℕ) → entry_of b number ≡ entry_of c number
  unfolding entry_of
  entry_there number = least_same _ _ 0 64 (λ n l h. ap (λ (v : ℕ). eqb v number) (number_there n h))

  clear_there : (size at n : ℕ) → n < 64 → clear_of b size at n ≡ clear_of c size at n
  clear_there size at n h = ap₂ (λ (start extent : ℕ). clear at (at + size) start (start + extent)) (start_there n h) (size_there n h)

  fits_there : (size at : ℕ) → fits b size at ≡ fits c size at
  unfolding fits
  fits_there size at = ap₂ (λ (room : ℕ) (free : Bool). leb (at + size) room && free) s.same_length (every_same (clear_of b size at) (clear_of c size at) 64 (clear_there size at))

  place_there : (size : ℕ) → place_for b size ≡ place_for c size
  unfolding place_for
  place_there size = least_same (fits b size) (fits c size) 768 (length b - 768) (λ at l h. fits_there size at) ∙ ap (λ (room : ℕ). least (fits c size) 768 (room - 768)) s.same_length

  spot_there : (number size : ℕ) → spot_for b number size ≡ spot_for c number size
  unfolding spot_for usable
  spot_there number size = rw (entry_there number, entry_there 0, place_there size)

  add_there : (number : ℕ) (file : List ℕ) → add_said b number file ≡ add_said c number file
  unfolding add_said
  add_there number file = rw (sound_there, spot_there number (length file))

  held_there : (number : ℕ) → held_at b number ≡ held_at c number
  unfolding held_at
  held_there number = rw (sound_there, entry_there number)

  -- an entry that is found is one of the 64
  found_there : (number : ℕ) (t : Said ℕ) → held_at b number ≡ t → and_then t (λ n. says (slot_of b n)) ≡ and_then t (λ n. says (slot_of c n))
  found_there number (says n) e = ap (λ (x : Slot). says x) (slot_there n (holds b number n e).entry)
  found_there number (refuses n l x) e = refl

  ask_there : (number : ℕ) → ask_said b number ≡ ask_said c number
  unfolding ask_said
  ask_there number = found_there number (held_at b number) refl ∙ ap (λ (t : Said ℕ). and_then t (λ n. says (slot_of c n))) (held_there number)

  pack_there : pack_said b ≡ pack_said c
  pack_there = rw sound_there

  -- ---- what the calls leave

  after_add_lem : (number : ℕ) (file : List ℕ) (x : Said Spot) → add_said b number file ≡ x → SameContents (after_add x b number file) (after_add x c number file)
  unfolding after_add
  after_add_lem number file (refuses n l x) e = s
  after_add_lem number file (says p) e =
      let a = adds b number file p e in
      let t : List ℕ = slot_bytes (record { number = number; start = p.start; size = length file }) in
      let long = slot_length (record { number = number; start = p.start; size = length file }) in
      record {
        same_length = length-sets (sets b p.start file) (12 * p.entry) t ∙ length-sets b p.start file ∙ s.same_length ∙ sym (length-sets (sets c p.start file) (12 * p.entry) t ∙ length-sets c p.start file);
        same_bytes = λ i h.
            sets_same (sets b p.start file) (sets c p.start file) (12 * p.entry) t i
            (omega (arith, long, length-sets b p.start file, a.sound_shelf.least_room, a.spot.entry))
            (omega (arith, long, length-sets c p.start file, a.sound_shelf.least_room, a.spot.entry, s.same_length))
            (get_d_sets_out b p.start file i (inl (omega (arith, a.spot.low))) ∙ s.same_bytes i h ∙ sym (get_d_sets_out c p.start file i (inl (omega (arith, a.spot.low)))));
      }

  after_remove_lem : (number : ℕ) (x : Said ℕ) → held_at b number ≡ x → SameContents (after_remove x b) (after_remove x c)
  unfolding after_remove
  after_remove_lem number (refuses n l x) e = s
  after_remove_lem number (says n) e =
      let a = holds b number n e in
      record {
        same_length = length-sets b (12 * n) (replicate 12 0) ∙ s.same_length ∙ sym (length-sets c (12 * n) (replicate 12 0));
        same_bytes = λ i h.
            sets_same b c (12 * n) (replicate 12 0) i
            (omega (arith, a.sound_shelf.least_room, a.entry))
            (omega (arith, a.sound_shelf.least_room, a.entry, s.same_length))
            (s.same_bytes i h);
      }

  packed_there : (n : ℕ) → n < 64 → packed_start b n ≡ packed_start c n
  unfolding before
  packed_there n h =
      ap (λ (v : ℕ). 768 + v)
      (total_same _ _ 64 (λ m k. ap₂ (λ (test : Bool) (size : ℕ). cond test size 0) (ap₂ ltb (start_there m k) (start_there n h)) (size_there m k)))

  module _ (after after' : List ℕ) (w : Packed b after) (w' : Packed c after') where
    -- a byte of the table that is no byte of a flight's start stays in both
    stays : (i : ℕ) → i < 768 → ((n : ℕ) → n < 64 → (number_of b n ≡ 0 → ⊥) → Outside (12 * n + 4) 4 i) → get_or after i 0 ≡ get_or after' i 0
    stays i h f =
        w.only i (λ n p u. (f n p u, inl (omega arith)))
        ∙ s.same_bytes i h
        ∙ sym (w'.only i (λ n p u. (f n p (λ z. u (sym (number_there n p) ∙ z)), inl (omega arith))))

    -- a byte of a flight's start is told by the packed start
    moved : (m i : ℕ) → m < 64 → (number_of b m ≡ 0 → ⊥) → 12 * m + 4 ≤ i → i < 12 * m + 8 → get_or after i 0 ≡ get_or after' i 0
    moved m i h u g k =
        let z : 12 * m + 4 + (i - (12 * m + 4)) ≡ i = omega arith in
        let d : i - (12 * m + 4) < 4 = omega arith in
        let e = w.start m h u ∙ ap word_bytes (packed_there m h) ∙ sym (w'.start m h (λ y. u (number_there m h ∙ y))) in
        let one = get_or-take 4 (drop (12 * m + 4) after) (i - (12 * m + 4)) 0 d ∙ get_or-drop (12 * m + 4) after (i - (12 * m + 4)) 0 in
        let two = get_or-take 4 (drop (12 * m + 4) after') (i - (12 * m + 4)) 0 d ∙ get_or-drop (12 * m + 4) after' (i - (12 * m + 4)) 0 in
        (rw z at (sym one ∙ ap (λ (l : List ℕ). get_or l (i - (12 * m + 4)) 0) e ∙ two))

    -- another entry's start
    aside : (m n i : ℕ) → 12 * m ≤ i → i < 12 * m + 12 → (n ≡ m → ⊥) → Outside (12 * n + 4) 4 i
    aside m n i g k d = by_le n m (λ e. inr (omega arith)) (λ e. inl (omega arith))

    after_pack : SameContents after after'
    after_pack = record {
      same_length = w.same_length ∙ s.same_length ∙ sym w'.same_length;
      same_bytes = λ i h.
          let m : ℕ = i / 12 in
          let low : 12 * m ≤ i = omega arith in
          let high : i < 12 * m + 12 = omega arith in
          let p : m < 64 = omega arith in
          by_eq (number_of b m) 0
          (λ z. stays i h (λ n q u. by_eq n m (λ e. absurd (u (rw e z))) (λ d. aside m n i low high d)))
          (λ u.
          by_le (12 * m + 4) i
          (λ g.
          by_le (12 * m + 8) i
          (λ k. stays i h (λ n q v. by_eq n m (λ e. rw e (inr (omega arith))) (λ d. aside m n i low high d)))
          (λ k. moved m i p u g k))
          (λ g. stays i h (λ n q v. by_eq n m (λ e. rw e (inl g)) (λ d. aside m n i low high d))));
    }

  part_there : (x : Said Slot) → length (part_of x b) ≡ length (part_of x c)
  part_there (says x) =
      let e = s.same_length in
      simp (length-take, length-drop) (rw e)
  part_there (refuses n l x) = refl

  -- ---- what the calls say

  pub add_unread : (number : ℕ) (file : List ℕ) (r r' : Result ℕ Refusal) (after after' : List ℕ) → FlightAdded b number file r after → FlightAdded c number file r' after' → result_told r ≡ result_told r'
  add_unread number file r r' after after' w w' = w.told ∙ ap (λ t. and_then t (λ x. says x.start)) (add_there number file) ∙ sym w'.told

  pub ask_unread : (number : ℕ) (r r' : Result Extent Refusal) → FlightAsked b number r → FlightAsked c number r' → result_told r ≡ result_told r'
  ask_unread number r r' w w' = w ∙ ap (λ t. and_then t (λ x. says (extent_of x))) (ask_there number) ∙ sym w'

  pub remove_unread : (number : ℕ) (r r' : Result ⊤ Refusal) (after after' : List ℕ) → FlightRemoved b number r after → FlightRemoved c number r' after' → result_told r ≡ result_told r'
  remove_unread number r r' after after' w w' = w.told ∙ ap (λ t. and_then t (λ _. says tt)) (held_there number) ∙ sym w'.told

  pub pack_unread : (r r' : Result ⊤ Refusal) (after after' : List ℕ) → ShelfPacked b r after → ShelfPacked c r' after' → result_told r ≡ result_told r'
  pack_unread r r' after after' w w' = w.told ∙ pack_there ∙ sym w'.told

  -- ---- and what they leave: the table of contents is one again, so that the same holds of each later call

  pub add_unread_after : (number : ℕ) (file : List ℕ) (r r' : Result ℕ Refusal) (after after' : List ℕ) → FlightAdded b number file r after → FlightAdded c number file r' after' → SameContents after after'
  add_unread_after number file r r' after after' w w' = rw (w.bytes, w'.bytes, ← add_there number file) (after_add_lem number file (add_said b number file) refl)

  pub remove_unread_after : (number : ℕ) (r r' : Result ⊤ Refusal) (after after' : List ℕ) → FlightRemoved b number r after → FlightRemoved c number r' after' → SameContents after after'
  remove_unread_after number r r' after after' w w' = rw (w.bytes, w'.bytes, ← held_there number) (after_remove_lem number (held_at b number) refl)

  pub pack_unread_after : (r r' : Result ⊤ Refusal) (after after' : List ℕ) → ShelfPacked b r after → ShelfPacked c r' after' → SameContents after after'
  pack_unread_after r r' after after' w w' =
      by_bool (sound b)
      (λ e.
      let p : pack_said b ≡ says tt = rw e in
      after_pack after after' (w.bytes.packed p) (w'.bytes.packed (sym pack_there ∙ p)))
      (λ e.
      let p : pack_said b ≡ no reason.Shelf 0 = rw e in
      let q : pack_said b ≡ says tt → ⊥ = λ h. refuses_says (sym p ∙ h) in
      rw (w.bytes.refused q, w'.bytes.refused (λ h. q (pack_there ∙ h))) s)

  -- what is handed out has as many bytes in both; where it stands is the answer's
  pub body_unread : (number : ℕ) (body body' : List ℕ) → BodyGiven b number body → BodyGiven c number body' → length body ≡ length body'
  body_unread number body body' g g' = rw (g, g', ← ask_there number) (part_there (ask_said b number))
