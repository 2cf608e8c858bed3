-- What it means that a call is accepted. Assumes nothing.
use Rattle.std.specs.Prelude.{None, Some}
use Prim.Native.Nat.{ℕ, ◌≤◌, ◌<◌}
use mathlib.Core.Bool.{true, false, not}
use mathlib.Core.List.{List}
use mathlib.Core.Path.{◌≡◌, ap}
use native.Mathlib.Omega.{arith}
use borrow.Author.Tests.{eqb-true, eqb-false, not-true}
use lib.Dec.{eqb}
use lib.ListN.{length}
use Rattle.rules.specs.Choice.{given, need}
use Rattle.rules.specs.Files.{verdict}
use Rattle.rules.specs.Refusals.{Said, says, no, and_then}
use Rattle.rules.specs.declared.Flight.{Flight}
use Rattle.rules.specs.declared.Reason.TheVariants as reason
use Rattle.rules.proofs.Inverse.{false_true, refuses_says, and_inv, need_inv, given_inv, given_none, then_inv}
use Rattle.shelf_rules.specs.Contents.{sound, number_of, Sound}
use Rattle.shelf_rules.specs.declared.Spot.{Spot}
use Rattle.shelf_rules.specs.Shelf.{usable, entry_of, place_for, held_at, spot_for, add_said, shelf_seal}
use Rattle.shelf_rules.proofs.Ranges.{least_some, least_none}
use Rattle.shelf_rules.proofs.Sounds.{sound_read}
use Rattle.shelf_rules.proofs.Places.{Fits, place_smallest}

-- an entry by its number
pub entry_is : (b : List ℕ) (number n : ℕ) → entry_of b number ≡ Some n → (n < 64) × (number_of b n ≡ number)
unfolding entry_of
entry_is b number n e =
    let l = least_some (λ m. eqb (number_of b m) number) 0 64 n e in
    (l.high, eqb-true (number_of b n) number l.passes)

pub entry_none : (b : List ℕ) (number : ℕ) → entry_of b number ≡ None → (n : ℕ) → n < 64 → number_of b n ≡ number → ⊥
unfolding entry_of
entry_none b number e n p = eqb-false (number_of b n) number (least_none (λ m. eqb (number_of b m) number) 0 64 e n (omega arith) p)

-- ---- a flight is held in an entry

pub record Holds (b : List ℕ) (number n : ℕ) : Type 0 where
  pub sound_shelf : Sound b
  pub nonzero : number ≡ 0 → ⊥
  pub entry : n < 64
  pub is : number_of b n ≡ number

pub holds : (b : List ℕ) (number n : ℕ) → held_at b number ≡ says n → Holds b number n
unfolding held_at
holds b number n e =
    let p = need_inv (sound b) (no reason.Shelf 0) (says n) (λ _. need (not (eqb number 0)) (no reason.NotFound 0) λ _. given (entry_of b number) (no reason.NotFound 0) λ m. says m) refuses_says e in
    let q = need_inv (not (eqb number 0)) (no reason.NotFound 0) (says n) (λ _. given (entry_of b number) (no reason.NotFound 0) λ m. says m) refuses_says p.1 in
    let g = given_inv (entry_of b number) (no reason.NotFound 0) (says n) (λ m. says m) refuses_says q.1 in
    let z : g.0 ≡ n = let h = g.2 in cc in
    let i = entry_is b number n (rw z at g.1) in
    record { sound_shelf = sound_read b p.0; nonzero = eqb-false number 0 (not-true (eqb number 0) q.0); entry = i.0; is = i.1 }

-- ---- a body has its entry and its start

pub record Spotted (b : List ℕ) (number size k at : ℕ) : Type 0 where
  pub nonzero : number ≡ 0 → ⊥
  pub unused : (n : ℕ) → n < 64 → number_of b n ≡ number → ⊥
  pub entry : k < 64
  pub free : number_of b k ≡ 0
  pub low : 768 ≤ at
  pub place : Fits b size at

pub spotted : (b : List ℕ) (number size : ℕ) (s : Spot) → spot_for b number size ≡ says s → Spotted b number size s.entry s.start
unfolding spot_for usable
spotted b number size s e =
    let spot : ℕ → ℕ → Said Spot = λ k at. says (record { entry = k; start = at }) in
    let q = need_inv (usable b number) (no reason.Id 0) (says s) (λ _. given (entry_of b 0) (no reason.Entries 0) λ k. given (place_for b size) (no reason.NoRun 0) (spot k)) refuses_says e in
    let g = given_inv (entry_of b 0) (no reason.Entries 0) (says s) (λ k. given (place_for b size) (no reason.NoRun 0) (spot k)) refuses_says q.1 in
    let h = given_inv (place_for b size) (no reason.NoRun 0) (says s) (spot g.0) refuses_says g.2 in
    let y : ◌≡◌ {A = Said Spot} (says (record { entry = g.0; start = h.0 })) (says s) = h.2 in
    let z : ◌≡◌ {A = Spot} (record { entry = g.0; start = h.0 }) s = cc in
    let i = entry_is b 0 s.entry (rw (ap (λ (t : Spot). t.entry) z) at g.1) in
    let m = place_smallest b size s.start (rw (ap (λ (t : Spot). t.start) z) at h.1) in
    let u = and_inv (not (eqb number 0)) (given (entry_of b number) true (λ _. false)) q.0 in
    record {
      nonzero = eqb-false number 0 (not-true (eqb number 0) u.0);
      unused = entry_none b number (given_none (entry_of b number) true true (λ _. false) (λ _. false_true) u.1).0;
      entry = i.0;
      free = i.1;
      low = m.0;
      place = m.1;
    }

-- ---- a file is added

pub record Adds (b : List ℕ) (number : ℕ) (file : List ℕ) (k at : ℕ) : Type 0 where
  pub sound_shelf : Sound b
  pub flight : Flight
  pub checked : verdict shelf_seal file None ≡ says flight
  pub spot : Spotted b number (length file) k at

pub adds : (b : List ℕ) (number : ℕ) (file : List ℕ) (s : Spot) → add_said b number file ≡ says s → Adds b number file s.entry s.start
unfolding add_said
adds b number file s e =
    let p = need_inv (sound b) (no reason.Shelf 0) (says s) (λ _. and_then (verdict shelf_seal file None) λ _. spot_for b number (length file)) refuses_says e in
    let v = then_inv (verdict shelf_seal file None) s (λ _. spot_for b number (length file)) p.1 in
    record { sound_shelf = sound_read b p.0; flight = v.0; checked = v.1; spot = spotted b number (length file) s v.2 }
