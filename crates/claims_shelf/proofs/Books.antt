-- What is told from the calls since a shelf was empty: the bytes held are those added less those removed, and each body is the file last added under its number. Assumes nothing.
use Rattle.rules.specs.declared.Refusal.{Refusal}
use Rattle.std.specs.Prelude.{Err, None, Ok, Option, Result, Some, ⊤}
use Prim.Native.Nat.{ℕ, ◌+◌, ◌-◌, ◌≤◌, ◌<◌}
use mathlib.Core.Bool.{cond}
use mathlib.Core.List.{List, ◌∷◌}
use mathlib.Core.Path.{◌≡◌, refl, sym, ◌∙◌}
use native.Mathlib.Omega.{arith}
use borrow.Author.Tests.{eq-eqb, ne_eqb}
use lib.Dec.{eqb}
use lib.ListN.{length}
use Rattle.rules.specs.Choice.{given}
use Rattle.rules.specs.Refusals.{says, result_told}
use Rattle.rules.specs.declared.Seal.TheVariants as seal
use Rattle.rules.proofs.Inverse.{then_inv}
use Rattle.grammar.specs.Grammar.{Meets, lines_in, flight_of}
use Rattle.grammar.specs.Readings.{Readable}
use Rattle.grammar.proofs.Demands.{accepted_as, readable}
use Rattle.shelf_rules.specs.Contents.{number_of, size_of, start_of, body_of, held, Sound}
use Rattle.shelf_rules.specs.Packing.{Packed}
use Rattle.shelf_rules.specs.declared.Spot.{Spot}
use Rattle.shelf_rules.specs.Shelf.{add_said, after_add, held_at, after_remove, ask_said}
use Rattle.shelf_rules.proofs.Tests.{by_eq}
use Rattle.shelf_rules.proofs.Bytes.{length_run}
use Rattle.shelf_rules.proofs.Accepts.{adds as accepted, holds}
use Rattle.shelf_pack.specs.Pack.{ShelfPacked}
use Rattle.shelf_rules.specs.Calls.{FlightAdded, BodyGiven, FlightRemoved}
use Rattle.claims_shelf.specs.Weekend.{IsShelf, HeldIn}
use Rattle.claims_shelf.specs.Calls.{Call, adds, removes, packs, last_added, bytes_added, bytes_removed, Empty, Reached, empty, added_one, asked_one, removed_one, packed_all}
use Rattle.claims_shelf.proofs.Answers.{met, held_says, pack_says}
use Rattle.claims_shelf.proofs.After.{add_keeps, remove_keeps}
use Rattle.claims_shelf.proofs.Covers.{covers}
use Rattle.claims_shelf.proofs.Packs.{pack_keeps, pack_number, pack_body, pack_held}
use Rattle.claims_shelf.proofs.Promised.{add_refused_leaves, remove_refused_leaves}
use Rattle.claims_shelf.proofs.Results.{add_number, add_body, add_changed, add_others, add_held, gone, remove_changed, remove_others, remove_held}
use Rattle.claims_shelf.proofs.Words.{keeps_sound}

-- ---- the books of a shelf: the file last added under each number, and the sums of what was added and of what was removed

pub record Books (last : ℕ → Option (List ℕ)) (more less : ℕ) (b : List ℕ) : Type 0 where
  pub shelf : IsShelf b
  pub bodies : (n : ℕ) → n < 64 → (number_of b n ≡ 0 → ⊥) → (last (number_of b n) ≡ Some (body_of b n)) × Meets seal.Usual (body_of b n)
  pub sum : held b + less ≡ more

-- a body has as many bytes as its entry tells
body_long : (b : List ℕ) → Sound b → (n : ℕ) → n < 64 → (number_of b n ≡ 0 → ⊥) → length (body_of b n) ≡ size_of b n
body_long b s n p u = length_run (start_of b n) (size_of b n) b (s.kept.inside n p u)

-- where no flight is held, no byte is
books_empty : (b : List ℕ) → Empty b → Books (λ x. None) 0 0 b
books_empty b w = record {
  shelf = w.0;
  bodies = λ n p u. absurd (u (w.1 n p));
  sum = by_eq (held b) 0
      (λ z. omega arith)
      (λ z. let v = covers b (keeps_sound b w.0) 0 (omega arith) in absurd (v.1.used (w.1 v.0 v.1.entry)));
}

module _ (last : ℕ → Option (List ℕ)) (more less : ℕ) (b : List ℕ) (k : Books last more less b) where
  books_add : (number : ℕ) (file : List ℕ) (s : Spot) → number < 4294967296 → add_said b number file ≡ says s
      → Books (λ x. cond (eqb number x) (Some file) (last x)) (more + length file) less (after_add (says s) b number file)
  unfolding after_add
  books_add number file s w e =
      let a = accepted b number file s e in
      let m = met file a.flight a.checked in
      let one = m.least in
      let x = add_number b file number s.entry s.start a one w in
      let y = add_body b file number s.entry s.start a one w in
      let ch = add_changed b file number s.entry s.start a one w in
      record {
        shelf = add_keeps b file number s.entry s.start a one w;
        bodies = λ n p u. by_eq n s.entry
            (λ q. rw (q, x, eq-eqb number number refl, y) (refl, m))
            (λ d.
            let f = ch.number_kept n p d in
            rw (f, ne_eqb number (number_of b n) (λ g. a.spot.unused n p (sym g)), add_others b file number s.entry s.start a one w n p d)
            (k.bodies n p (λ g. u (f ∙ g))));
        sum = let t = add_held b file number s.entry s.start a one w in let q = k.sum in omega arith;
      }

  books_remove : (number n : ℕ) → held_at b number ≡ says n → Books last more (less + given (last number) 0 length) (after_remove (says n) b)
  unfolding after_remove
  books_remove number n e =
      let h = holds b number n e in
      let ch = remove_changed b number n h in
      let u : number_of b n ≡ 0 → ⊥ = λ g. h.nonzero (sym h.is ∙ g) in
      let y : last number ≡ Some (body_of b n) = rw h.is at (k.bodies n h.entry u).0 in
      let l = body_long b h.sound_shelf n h.entry u in
      record {
        shelf = remove_keeps b number n h;
        bodies = λ m p v. by_eq m n
            (λ q. absurd (v (rw q (gone b number n h).0)))
            (λ d. let f = ch.number_kept m p d in rw (f, remove_others b number n h m p d) (k.bodies m p (λ g. v (f ∙ g))));
        sum = let t = remove_held b number n h in let q = k.sum in rw y (omega arith);
      }

  books_pack : (c : List ℕ) → Packed b c → Books last more less c
  books_pack c w =
      let s = keeps_sound b k.shelf in
      record {
        shelf = pack_keeps b c s w;
        bodies = λ n p u. let f = pack_number b c s w n p in rw (f, pack_body b c s w n p) (k.bodies n p (λ g. u (f ∙ g)));
        sum = let t = pack_held b c s w in let q = k.sum in omega arith;
      }

-- ---- one call, whatever it answers

module _ (calls : List Call) (b : List ℕ) (k : Books (last_added calls) (bytes_added calls) (bytes_removed calls) b) where
  abbrev Kept : Call → List ℕ → Type 0
  Kept call after = Books (last_added (call ∷ calls)) (bytes_added (call ∷ calls)) (bytes_removed (call ∷ calls)) after

  kept_add : (number : ℕ) (file : List ℕ) (r : Result ℕ Refusal) (after : List ℕ) → number < 4294967296 → FlightAdded b number file r after → Kept (adds number file r) after
  unfolding result_told
  kept_add number file (Ok at) after small w =
      let s = then_inv (add_said b number file) at (λ s. says s.start) (sym w.told) in
      rw (w.bytes, s.1) (books_add (last_added calls) (bytes_added calls) (bytes_removed calls) b k number file s.0 small s.1)
  kept_add number file (Err y) after small w = rw (add_refused_leaves b number file (Err y) after w _ _ _ refl) k

  kept_remove : (number : ℕ) (r : Result ⊤ Refusal) (after : List ℕ) → FlightRemoved b number r after → Kept (removes number r) after
  unfolding result_told
  kept_remove number (Ok tt) after w =
      let n = then_inv (held_at b number) tt (λ n. says tt) (sym w.told) in
      rw (w.bytes, n.1) (books_remove (last_added calls) (bytes_added calls) (bytes_removed calls) b k number n.0 n.1)
  kept_remove number (Err y) after w = rw (remove_refused_leaves b number (Err y) after w _ _ _ refl) k

  kept_pack : (r : Result ⊤ Refusal) (after : List ℕ) → ShelfPacked b r after → Kept (packs r) after
  kept_pack r after w = books_pack (last_added calls) (bytes_added calls) (bytes_removed calls) b k after (w.bytes.packed ((pack_says b).1 k.shelf))

pub books : {calls : List Call} {b : List ℕ} → Reached calls b → Books (last_added calls) (bytes_added calls) (bytes_removed calls) b
books (empty {b = b} w) = books_empty b w
books (added_one {calls = calls} {b = b} {after = after} number file r small w k) = kept_add calls b (books k) number file r after small w
books (asked_one number r w k) = books k
books (removed_one {calls = calls} {b = b} {after = after} number r w k) = kept_remove calls b (books k) number r after w
books (packed_all {calls = calls} {b = b} {after = after} r w k) = kept_pack calls b (books k) r after w

-- ---- what they tell

module _ (calls : List Call) (b : List ℕ) (k : Reached calls b) where
  pub held_by_calls : (held b ≡ bytes_added calls - bytes_removed calls) × (bytes_removed calls ≤ bytes_added calls)
  held_by_calls = let q = (books k).sum in (omega arith, omega arith)

  pub calls_keep_rules : IsShelf b
  calls_keep_rules = (books k).shelf

  pub body_is_file : (number n : ℕ) → HeldIn b number n → (p : List ℕ) → BodyGiven b number p → (last_added calls number ≡ Some p) × Meets seal.Usual p
  unfolding ask_said
  body_is_file number n h p w = let y = (books k).bodies n h.2 (λ z. h.1 (sym h.3 ∙ z)) in rw (w, held_says b number n h) (rw h.3 at y)

-- ---- what is read of a file that meets the grammar, with any table that has an entry for each of its lines

pub readable_with : (body table : List ℕ) (m : Meets seal.Usual body) → length (lines_in m.parts) ≤ length table → Readable seal.Usual body table (flight_of m)
readable_with body table m h = readable seal.Usual body table (flight_of m) ((accepted_as seal.Usual body (Some (length table)) (flight_of m)).1 (m, h, refl))
