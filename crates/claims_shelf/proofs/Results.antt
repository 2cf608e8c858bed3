-- What adding and removing leave of a sound shelf. Assumes nothing.
use Prim.Native.Nat.{ℕ, ◌+◌, ◌*◌, ◌≤◌, ◌<◌}
use mathlib.Core.List.{List}
use mathlib.Core.Logic.{inl, inr, ⊎_elim}
use mathlib.Core.Path.{◌≡◌, refl, sym, ◌∙◌}
use native.Mathlib.Omega.{arith}
use lib.ListN.{length, replicate}
use lib.Seq.{sets, length-sets}
use Rattle.shelf_rules.specs.Contents.{word, number_of, start_of, size_of, body_of, slot_bytes, held, Sound}
use Rattle.shelf_rules.specs.declared.Slot.{Slot}
use Rattle.shelf_rules.proofs.Tests.{by_eq}
use Rattle.shelf_rules.proofs.Ranges.{total_change}
use Rattle.shelf_rules.proofs.Bytes.{run, run_kept, run_stored, word_stored, slot_length, slot_number, slot_start, slot_size}
use Rattle.claims_shelf.proofs.Tables.{Changed, kept_changed}
use Rattle.shelf_rules.proofs.Accepts.{Holds, Adds}
use Rattle.claims_shelf.proofs.Entries.{entry_changed, body_past, number_past, start_past, size_past}

-- a free body's bytes are the same wherever it starts
free_body : (b c : List ℕ) (m : ℕ) → size_of b m ≡ 0 → size_of c m ≡ 0 → body_of c m ≡ body_of b m
free_body b c m e f = rw (e, f)

-- ---- removing

module _ (b : List ℕ) (number n : ℕ) (h : Holds b number n) where
  abbrev pub removed : List ℕ
  removed = sets b (12 * n) (replicate 12 0)

  zeros : (j : ℕ) → j + 4 ≤ 12 → word (replicate 12 0) j ≡ 0 → word removed (12 * n + j) ≡ 0
  zeros j g e = word_stored b (12 * n) (replicate 12 0) j (let r = h.sound_shelf.least_room in let p = h.entry in omega arith) g ∙ e

  pub gone : (number_of removed n ≡ 0) × (start_of removed n ≡ 0) × (size_of removed n ≡ 0)
  unfolding word
  gone = let e : 12 * n + 0 ≡ 12 * n = omega arith in (rw e at (zeros 0 (omega arith) refl), zeros 4 (omega arith) refl, zeros 8 (omega arith) refl)

  pub remove_changed : Changed (number_of b) (start_of b) (size_of b) (number_of removed) (start_of removed) (size_of removed) n
  remove_changed = entry_changed b (replicate 12 0) n refl

  -- a sound shelf stays sound
  pub remove_sound : Sound removed
  remove_sound =
      let g = gone in
      let l : length removed ≡ length b = length-sets b (12 * n) (replicate 12 0) in
      record {
        least_room = rw l h.sound_shelf.least_room;
        most_room = rw l h.sound_shelf.most_room;
        kept = rw l (kept_changed h.sound_shelf.kept remove_changed (record {
          none = λ z. (g.1, g.2);
          some_byte = λ z. absurd (z g.0);
          from_768 = λ z. absurd (z g.0);
          inside = λ z. absurd (z g.0);
          clear = λ m p d. inl (omega (arith, g.1, g.2));
          own = λ m p d e. g.0;
        }));
      }

  -- the other flights' bytes are as before
  pub remove_others : (m : ℕ) → m < 64 → (m ≡ n → ⊥) → body_of removed m ≡ body_of b m
  remove_others m p d = by_eq (number_of b m) 0
      (λ z. let f = (h.sound_shelf.kept.free m p z).1 in free_body b removed m f (remove_changed.size_kept m p d ∙ f))
      (λ u. body_past b (replicate 12 0) n refl m h.entry (h.sound_shelf.kept.from_768 m p u) (h.sound_shelf.kept.inside m p u) p d)

  pub remove_held : held removed + size_of b n ≡ held b
  unfolding held
  remove_held =
      let t = total_change (size_of b) (size_of removed) 64 n h.entry (λ m p d. remove_changed.size_kept m p d) in
      let g = gone in omega (arith, g.2)

-- ---- adding

module _ (b body : List ℕ) (number k at : ℕ) (a : Adds b number body k at) (one : 1 ≤ length body) (w : number < 4294967296) where
  abbrev slot : Slot
  slot = record { number = number; start = at; size = length body }

  abbrev pub added : List ℕ
  added = sets (sets b at body) (12 * k) (slot_bytes slot)

  pub add_long : length added ≡ length b
  add_long = length-sets (sets b at body) (12 * k) (slot_bytes slot) ∙ length-sets b at body

  told : (j v : ℕ) → j + 4 ≤ 12 → word (slot_bytes slot) j ≡ v → word added (12 * k + j) ≡ v
  told j v g e =
      let l = slot_length slot in
      let f = length-sets b at body in
      let r = a.sound_shelf.least_room in
      let p = a.spot.entry in
      word_stored (sets b at body) (12 * k) (slot_bytes slot) j (omega arith) (omega arith) ∙ e

  small : (at < 4294967296) × (length body < 4294967296)
  small = let i = a.spot.place.inside in let m = a.sound_shelf.most_room in (omega arith, omega arith)

  -- asking gives the new body
  pub add_number : number_of added k ≡ number
  add_number = let e : 12 * k + 0 ≡ 12 * k = omega arith in rw e at (told 0 number (omega arith) (slot_number slot w))

  pub add_start : start_of added k ≡ at
  add_start = told 4 at (omega arith) (slot_start slot small.0)

  pub add_size : size_of added k ≡ length body
  add_size = told 8 (length body) (omega arith) (slot_size slot small.1)

  pub add_run : run at (length body) added ≡ body
  add_run =
      let l = slot_length slot in
      let i = a.spot.place.inside in
      let q = a.spot.low in
      let p = a.spot.entry in
      run_kept (sets b at body) (12 * k) (slot_bytes slot) at (length body) (rw length-sets i) (inr (omega arith)) ∙ run_stored b at body i

  pub add_body : body_of added k ≡ body
  add_body = rw (add_start, add_size) add_run

  pub add_changed : Changed (number_of b) (start_of b) (size_of b) (number_of added) (start_of added) (size_of added) k
  add_changed =
      let c = entry_changed (sets b at body) (slot_bytes slot) k (slot_length slot) in
      record {
        number_kept = λ m p d. c.number_kept m p d ∙ number_past b body at a.spot.low m p;
        start_kept = λ m p d. c.start_kept m p d ∙ start_past b body at a.spot.low m p;
        size_kept = λ m p d. c.size_kept m p d ∙ size_past b body at a.spot.low m p;
      }

  -- a sound shelf stays sound
  pub add_sound : Sound added
  add_sound =
      let x = add_number in
      let y = add_start in
      let z = add_size in
      record {
        least_room = rw add_long a.sound_shelf.least_room;
        most_room = rw add_long a.sound_shelf.most_room;
        kept = rw add_long (kept_changed a.sound_shelf.kept add_changed (record {
          none = λ e. absurd (a.spot.nonzero (sym x ∙ e));
          some_byte = λ e. omega arith;
          from_768 = λ e. let q = a.spot.low in omega arith;
          inside = λ e. let i = a.spot.place.inside in omega arith;
          clear = λ m p d. rw (y, z) (a.spot.place.apart m p);
          own = λ m p d e. absurd (a.spot.unused m p (sym e ∙ x));
        }));
      }

  -- the other flights' bytes are as before
  pub add_others : (m : ℕ) → m < 64 → (m ≡ k → ⊥) → body_of added m ≡ body_of b m
  add_others m p d = by_eq (number_of b m) 0
      (λ e. let f = (a.sound_shelf.kept.free m p e).1 in free_body b added m f (add_changed.size_kept m p d ∙ f))
      (λ u.
      let s = start_past b body at a.spot.low m p in
      let z = size_past b body at a.spot.low m p in
      let l = length-sets b at body in
      let f = a.sound_shelf.kept.from_768 m p u in
      let i = a.sound_shelf.kept.inside m p u in
      body_past (sets b at body) (slot_bytes slot) k (slot_length slot) m a.spot.entry (omega arith) (omega arith) p d
      ∙ rw (s, z) (run_kept b at body (start_of b m) (size_of b m) i (⊎_elim (λ g. inr g) (λ g. inl g) (a.spot.place.apart m p))))

  pub add_held : held added ≡ held b + length body
  unfolding held
  add_held =
      let t = total_change (size_of b) (size_of added) 64 k a.spot.entry (λ m p d. add_changed.size_kept m p d) in
      let z = (a.sound_shelf.kept.free k a.spot.entry a.spot.free).1 in
      let g = add_size in omega arith
