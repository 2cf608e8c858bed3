-- The body that starts next, one entry more; a body moved; a turn of the packing; and the two ways out of the call. Assumes nothing.
use Rattle.std.specs.Prelude.{Err, None, Ok, Option, Some}
use Prim.Native.Nat.{ℕ, ◌+◌, ◌*◌, ◌≤◌, ◌<◌}
use mathlib.Core.Bool.{Bool, true, false, not}
use mathlib.Core.List.{List}
use mathlib.Core.Path.{◌≡◌, refl, ap, ◌∙◌}
use native.Mathlib.Omega.{arith}
use borrow.Author.Tests.{le-leb}
use lib.ListN.{length}
use lib.Seq.{sets, length-sets}
use Rattle.rules.specs.Refusals.{result_told}
use Rattle.rules.specs.Writes.{put_at}
use Rattle.rules.specs.declared.Reason.TheVariants as reason
use Rattle.rules.specs.declared.Refusal.{Refusal}
use Rattle.file_lines.specs.Ends.{unplaced}
use Rattle.file_lines.proofs.Places.{refuses_unplaced}
use Rattle.shelf_rules.specs.Contents.{word_bytes, start_of, size_of, slot_of, body_of, sound}
use Rattle.shelf_rules.specs.Moves.{NextOf, moved_to}
use Rattle.shelf_rules.specs.Packing.{Packed}
use Rattle.shelf_rules.specs.declared.Slot.{Slot}
use Rattle.shelf_rules.proofs.Tests.{by_eq, not_not, not_so}
use Rattle.shelf_rules.proofs.Sounds.{sound_read}
use Rattle.shelf_rules.proofs.Mids.{Mid, mid_move, mid_last, move_order, move_inside, next_bytes, next_size}
use Rattle.shelf_bytes.specs.Stow.{moved_down}
use Rattle.shelf_pack.specs.Pack.{ShelfPacked}

-- ---- the numbers of an entry that was read

pub start_is : (b : List ℕ) (n : ℕ) (s : Slot) → s ≡ slot_of b n → s.start ≡ start_of b n
start_is b n s e = ap (λ (t : Slot). t.start) e

pub size_is : (b : List ℕ) (n : ℕ) (s : Slot) → s ≡ slot_of b n → s.size ≡ size_of b n
size_is b n s e = ap (λ (t : Slot). t.size) e

-- ---- what was found, by its case

pub next_at : (b : List ℕ) (from k m : ℕ) (r : Option ℕ) → r ≡ Some m → NextOf b from k r → NextOf b from k (Some m)
next_at b from k m r e x = rw e at x

pub next_nothing : (b : List ℕ) (from k : ℕ) (r : Option ℕ) → r ≡ None → NextOf b from k r → NextOf b from k None
next_nothing b from k r e x = rw e at x

-- ---- one entry more

module _ (b : List ℕ) (from n : ℕ) where
  pub next_skip : (best : Option ℕ) → start_of b n < from → NextOf b from n best → NextOf b from (n + 1) best
  next_skip (Some m) h x =
      (let y = x.0 in omega arith, x.1, λ k p g. by_eq k n (λ e. let w : from ≤ start_of b n = rw e at g in absurd (omega arith)) (λ d. x.2 k (omega arith) g))
  next_skip None h x = λ k p. by_eq k n (λ e. rw e h) (λ d. x k (omega arith))

  pub next_old : (m : ℕ) → start_of b m ≤ start_of b n → NextOf b from n (Some m) → NextOf b from (n + 1) (Some m)
  next_old m h x = (let y = x.0 in omega arith, x.1, λ k p g. by_eq k n (λ e. rw e h) (λ d. x.2 k (omega arith) g))

  pub next_new : (m : ℕ) → from ≤ start_of b n → start_of b n < start_of b m → NextOf b from n (Some m) → NextOf b from (n + 1) (Some n)
  next_new m f h x = (omega arith, f, λ k p g. by_eq k n (λ e. rw e (omega arith)) (λ d. let y = x.2 k (omega arith) g in omega arith))

  pub next_one : from ≤ start_of b n → NextOf b from n None → NextOf b from (n + 1) (Some n)
  next_one f x = (omega arith, f, λ k p g. by_eq k n (λ e. rw e (omega arith)) (λ d. let y = x k (omega arith) in absurd (omega arith)))

  pub next_none : NextOf b from 0 None
  next_none k p = absurd (omega arith)

  pub next_all : (best : Option ℕ) → n ≡ 64 → NextOf b from n best → NextOf b from 64 best
  next_all best e x = rw e at x

-- ---- a body moved, and its start put

pub move_then : (b : List ℕ) (n at : ℕ) (s : Slot) (mid after : List ℕ) → 768 ≤ length b → n < 64 → at ≤ start_of b n → start_of b n + size_of b n ≤ length b
    → s ≡ slot_of b n → mid ≡ moved_down b at s.start s.size → after ≡ put_at mid (12 * n + 4) (word_bytes at) → after ≡ moved_to b n at
unfolding moved_down put_at word_bytes
move_then b n at s mid after h p g i e f w =
    let down : mid ≡ sets b at (body_of b n) =
    f ∙ ap (λ (t : Slot). moved_down b at t.start t.size) e ∙ rw (le-leb at (start_of b n) g, le-leb (start_of b n + size_of b n) (length b) i) in
    let l = length-sets b at (body_of b n) in
    w ∙ rw (down, le-leb (12 * n + 4 + 4) (length (sets b at (body_of b n))) (omega arith))

-- ---- a turn of the packing: what the move asks, and how far it gets

pub record Turn (o : List ℕ) (at from : ℕ) (b : List ℕ) (n : ℕ) : Type 0 where
  pub entry : n < 64
  pub room : 768 ≤ length b
  pub order : at ≤ start_of b n
  pub inside : start_of b n + size_of b n ≤ length b
  pub same_length : length b ≡ length o
  pub most_room : length o ≤ 16777216
  pub ahead : from < start_of b n + size_of b n

module _ (o : List ℕ) (at from : ℕ) (b : List ℕ) (n : ℕ) (r : Option ℕ) (e : sound o ≡ true) (k : Mid o at from b) (f : r ≡ Some n) (x : NextOf b from 64 r) where
  pub turn : Turn o at from b n
  turn =
      let s = sound_read o e in
      let y = next_at b from 64 n r f x in
      let z = next_size o at from b n s k y in
      let w = next_bytes o at from b n s k y in
      let g = y.1 in
      record {
        entry = y.0;
        room = rw k.same_length s.least_room;
        order = move_order o at from b n s k y;
        inside = move_inside o at from b n s k y;
        same_length = k.same_length;
        most_room = s.most_room;
        ahead = omega arith;
      }

  pub turn_mid : (s : Slot) (after : List ℕ) → (s ≡ slot_of b n) × (after ≡ moved_to b n at) → (a u : ℕ) → a ≡ at + s.size → u ≡ s.start + s.size → Mid o a u after
  turn_mid s after w a u g h =
      let z = start_is b n s w.0 in
      let v = size_is b n s w.0 in
      rw w.1 (mid_move o at from b n (sound_read o e) k (next_at b from 64 n r f x) a u (omega arith) (omega arith))

pub turns_end : (o : List ℕ) (at from : ℕ) (b : List ℕ) (r : Option ℕ) → sound o ≡ true → Mid o at from b → r ≡ None → NextOf b from 64 r → Packed o b
turns_end o at from b r e k f x = mid_last o at from b (sound_read o e) k (next_nothing b from 64 r f x)

-- ---- the two ways out of the call

-- "the shelf is changed by none of them", the refusals
pub pack_refused : (b : List ℕ) (t : Bool) (r : Refusal) → t ≡ sound b → not t ≡ true → r ≡ unplaced reason.Shelf → ShelfPacked b (Err r) b
unfolding result_told
pack_refused b t r e g h =
    let f = not_not (sound b) t e g in
    record {
      told = rw f (refuses_unplaced reason.Shelf r h);
      bytes = record { packed = λ w. let z : ◌≡◌ {A = ℕ} 0 1 = let v = rw f at w in cc in absurd (omega arith); refused = λ w. refl };
    }

pub pack_done : (b : List ℕ) (t : Bool) (after : List ℕ) → t ≡ sound b → not t ≡ false → Packed b after → ShelfPacked b (Ok tt) after
unfolding result_told
pack_done b t after e g h =
    let f = not_so (sound b) t e g in
    record { told = rw f; bytes = record { packed = λ w. h; refused = λ w. absurd (w (rw f)) } }
