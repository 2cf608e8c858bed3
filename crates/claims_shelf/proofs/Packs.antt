-- A packed shelf: its entries and its bytes, the one free run behind its bodies, and what asking it says. Assumes nothing.
use Prim.Native.Nat.{ℕ, ◌+◌, ◌*◌, ◌-◌, ◌≤◌, ◌<◌}
use mathlib.Core.List.{List}
use mathlib.Core.Logic.{◌⊎◌, inl, inr, ◌↔◌, ⊎_elim}
use mathlib.Core.Path.{◌≡◌, refl, sym, ap, ◌∙◌}
use native.Mathlib.Omega.{arith}
use lib.ListN.{length, get_or, take, drop, length-take, length-drop}
use Rattle.rules.specs.Refusals.{Said, outcome}
use Rattle.shelf_rules.specs.Contents.{number_of, start_of, size_of, end_of, body_of, held, Sound}
use Rattle.shelf_rules.specs.Packing.{before, packed_start, Outside, Packed}
use Rattle.shelf_rules.specs.Shelf.{ask_said, part_of}
use Rattle.shelf_rules.specs.declared.Slot.{Slot}
use Rattle.shelf_rules.proofs.Tests.{by_eq, by_le}
use Rattle.shelf_rules.proofs.Ranges.{total_same}
use Rattle.shelf_rules.proofs.Bytes.{run, length_run, word_same, word_run}
use Rattle.shelf_rules.proofs.Sounds.{apart_any}
use Rattle.shelf_rules.proofs.Packing.{before_next}
use Rattle.claims_shelf.specs.Weekend.{Among, InBody, IsShelf, FreeRun, Packs}
use Rattle.claims_shelf.proofs.After.{ask_alike}
use Rattle.claims_shelf.proofs.Covers.{before_mono, before_held, covers}
use Rattle.claims_shelf.proofs.Words.{sound_keeps}

outside : (at size i : ℕ) → (Among at size i → ⊥) → Outside at size i
outside at size i f = by_le at i (λ g. by_le (at + size) i (λ h. inr h) (λ h. absurd (f (g, h)))) (λ g. inl g)

-- a part that has as many bytes as were asked for ends inside
part_inside : (at size : ℕ) (l : List ℕ) → 1 ≤ size → length (run at size l) ≡ size → at + size ≤ length l
part_inside at size l h e = let g : length (take size (drop at l)) ≡ size = e in let f = simp (length-take, length-drop) at g in omega (arith, f)

module _ (b c : List ℕ) (s : Sound b) (w : Packed b c) where
  -- ---- the table

  -- a byte of the table stays, but for the starts of flights
  table_byte : (i : ℕ) → i < 768 → ((n : ℕ) → n < 64 → (number_of b n ≡ 0 → ⊥) → Outside (12 * n + 4) 4 i) → get_or c i 0 ≡ get_or b i 0
  table_byte i h f = w.only i (λ n p u. (f n p u, inl (omega arith)))

  pub pack_number : (n : ℕ) → n < 64 → number_of c n ≡ number_of b n
  pack_number n p = word_same c b (12 * n) (12 * n) λ i h.
      table_byte (12 * n + i) (omega arith) (λ m q u. by_le n m (λ g. inl (omega arith)) (λ g. inr (omega arith)))

  pub pack_size : (n : ℕ) → n < 64 → size_of c n ≡ size_of b n
  pack_size n p = word_same c b (12 * n + 8) (12 * n + 8) λ i h.
      table_byte (12 * n + 8 + i) (omega arith) (λ m q u. by_le m n (λ g. inr (omega arith)) (λ g. inl (omega arith)))

  pack_free : (n : ℕ) → n < 64 → number_of b n ≡ 0 → start_of c n ≡ 0
  pack_free n p z = word_same c b (12 * n + 4) (12 * n + 4) (λ i h.
      table_byte (12 * n + 4 + i) (omega arith) (λ m q u. by_eq m n
      (λ e. absurd (u (rw e z)))
      (λ d. by_le m n (λ g. inr (omega arith)) (λ g. inl (omega arith)))))
      ∙ (s.kept.free n p z).0

  -- ---- the bodies

  module _ (n : ℕ) (p : n < 64) (u : number_of b n ≡ 0 → ⊥) where
    some_byte : 1 ≤ size_of b n
    some_byte = s.kept.some_byte n p u

    ends : packed_start b n + size_of b n ≤ length b
    ends =
        let e = part_inside (packed_start b n) (size_of b n) c some_byte (ap length (w.bytes n p u) ∙ length_run (start_of b n) (size_of b n) b (s.kept.inside n p u)) in
        let f = w.same_length in omega arith

    pub pack_start : start_of c n ≡ packed_start b n
    pack_start = word_run c (12 * n + 4) (packed_start b n) (let e = ends in let m = s.most_room in omega arith) (w.start n p u)

    -- up to its end as many bytes are held as up to its start, and its own
    before_end : before b (end_of b n) ≡ before b (start_of b n) + size_of b n
    before_end = before_next b s n p some_byte

    ends_held : packed_start b n + size_of b n ≤ 768 + held b
    ends_held = let x = before_end in let y = before_held b (end_of b n) in omega arith

  pub pack_body : (n : ℕ) → n < 64 → body_of c n ≡ body_of b n
  pack_body n p = by_eq (number_of b n) 0
      (λ z. let f = (s.kept.free n p z).1 in rw (pack_size n p, f))
      (λ u. rw (pack_start n p u, pack_size n p) (w.bytes n p u))

  -- ---- it is a shelf

  -- bodies stay in their order, and don't overlap
  ordered : (n m : ℕ) → n < 64 → m < 64 → (number_of b n ≡ 0 → ⊥) → (number_of b m ≡ 0 → ⊥) → end_of b n ≤ start_of b m → end_of c n ≤ start_of c m
  ordered n m p q u v h =
      let e = pack_start n p u in
      let f = pack_start m q v in
      let g = pack_size n p in
      let x = before_end n p u in
      let y = before_mono b (end_of b n) (start_of b m) h in
      omega arith

  used : (n : ℕ) → n < 64 → (number_of c n ≡ 0 → ⊥) → number_of b n ≡ 0 → ⊥
  used n p z e = z (pack_number n p ∙ e)

  nothing : (n : ℕ) → n < 64 → number_of b n ≡ 0 → (start_of c n ≡ 0) × (size_of c n ≡ 0)
  nothing n p z = (pack_free n p z, pack_size n p ∙ (s.kept.free n p z).1)

  apart_packed : (n m : ℕ) → n < 64 → m < n → (end_of c n ≤ start_of c m) ⊎ (end_of c m ≤ start_of c n)
  apart_packed n m p h = by_eq (number_of b n) 0
      (λ z. let g = nothing n p z in inl (omega (arith, g.0, g.1)))
      (λ u. by_eq (number_of b m) 0
      (λ z. let g = nothing m (omega arith) z in inr (omega (arith, g.0, g.1)))
      (λ v. ⊎_elim (λ g. inl (ordered n m p (omega arith) u v g)) (λ g. inr (ordered m n (omega arith) p v u g)) (s.kept.apart n m p h)))

  pub pack_sound : Sound c
  pack_sound = record {
    least_room = rw w.same_length s.least_room;
    most_room = rw w.same_length s.most_room;
    kept = record {
      free = λ n p z. nothing n p (sym (pack_number n p) ∙ z);
      some_byte = λ n p z. rw (pack_size n p) (s.kept.some_byte n p (used n p z));
      from_768 = λ n p z. let e = pack_start n p (used n p z) in omega arith;
      inside = λ n p z.
          let e = pack_start n p (used n p z) in
          let g = pack_size n p in
          let x = ends n p (used n p z) in
          let l = w.same_length in
          omega arith;
      apart = apart_packed;
      once = λ n m p h e. pack_number n p ∙ s.kept.once n m p h (sym (pack_number n p) ∙ e ∙ pack_number m (omega arith));
    };
  }

  pub pack_keeps : IsShelf c
  pack_keeps = sound_keeps c pack_sound

  -- ---- "without gaps"

  pub pack_no_gaps : (i : ℕ) → 768 ≤ i → ((n : ℕ) × InBody c n i) ↔ (i < 768 + held b)
  pack_no_gaps i low = (
    (λ x.
        let n = x.0 in
        let y = x.1 in
        let u = used x.0 y.entry y.used in
        let e = pack_start x.0 y.entry u in
        let g = pack_size x.0 y.entry in
        let h = ends_held x.0 y.entry u in
        omega (arith, y.among.1)),
    (λ h.
        let v = covers b s (i - 768) (omega arith) in
        let p = v.1.entry in
        let u = v.1.used in
        let e = pack_start v.0 p u in
        let g = pack_size v.0 p in
        (v.0, record { entry = p; used = λ z. u (sym (pack_number v.0 p) ∙ z); among = (omega (arith, v.1.from), omega (arith, v.1.upto)) })),
  )

  -- the bodies end inside the buffer
  pub pack_room : 768 + held b ≤ length b
  pack_room = by_eq (held b) 0
      (λ z. let r = s.least_room in omega arith)
      (λ z.
      let x = (pack_no_gaps (768 + held b - 1) (omega arith)).1 (omega arith) in
      let h = pack_keeps.inside x.0 (768 + held b - 1) x.1 in
      let l = w.same_length in
      omega (arith, h.1))

  -- the free bytes are one run behind the bodies: whatever is no longer fits there, and what is longer fits nowhere
  pub pack_free_run : (size : ℕ) → ((at : ℕ) × FreeRun c at size) ↔ (768 + held b + size ≤ length b)
  pack_free_run size = (
    (λ x. by_eq size 0
        (λ z. let r = pack_room in omega arith)
        (λ z. by_le (768 + held b) x.0
        (λ g. let l = w.same_length in omega (arith, x.1.inside))
        (λ g. let y = (pack_no_gaps x.0 x.1.from_768).1 g in absurd (x.1.free y.0 x.0 (omega arith, omega arith) y.1)))),
    (λ h. (
      768 + held b,
      record {
        from_768 = omega arith;
        inside = let l = w.same_length in omega arith;
        free = λ n i a x. let g = (pack_no_gaps i (omega (arith, a.0))).0 (n, x) in omega (arith, a.0);
      },
    )),
  )

  -- ---- all that it does

  pub pack_packs : Packs b c
  pack_packs = record {
    long = w.same_length;
    number = pack_number;
    size = pack_size;
    order = λ n m p q u v h. ⊎_elim
        (λ (g : end_of b n ≤ start_of b m). let f = ordered n m p q u v g in let e = pack_size n p in let z = s.kept.some_byte n p u in omega arith)
        (λ (g : end_of b m ≤ start_of b n). absurd (omega arith))
        (by_eq n m (λ e. inl (absurd (let f : start_of b m < start_of b m = rw e at h in omega arith))) (λ d. apart_any s.kept n m p q d));
    no_gaps = pack_no_gaps;
    bytes = pack_body;
    rest = λ i f g. w.only i (λ n p u. (
      outside (12 * n + 4) 4 i (f n p u),
      outside (packed_start b n) (size_of b n) i (λ a.
          let e = pack_start n p u in
          let h = pack_size n p in
          g n (record { entry = p; used = λ z. u (sym (pack_number n p) ∙ z); among = (omega (arith, a.0), omega (arith, a.1)) })),
    ));
  }

  -- ---- asking

  -- a flight is found or not as before, and its bytes are the same
  abbrev Found : Said Slot → Said Slot → Type 0
  Found v u = (outcome v ≡ outcome u) × (part_of v c ≡ part_of u b)

  pub pack_asked : (x : ℕ) → Found (ask_said c x) (ask_said b x)
  pack_asked x = ask_alike Found b c x (sound_keeps b s) pack_keeps
      (λ z n p. let f = pack_number n p in ((λ e. f ∙ e), (λ e. sym f ∙ e)))
      (λ n h. (refl, pack_body n h.2))
      (refl, refl)

  pub pack_held : held c ≡ held b
  unfolding held
  pack_held = total_same (size_of c) (size_of b) 64 pack_size
