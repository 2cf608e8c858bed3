-- The ways out of the calls, in the form that `search` finds: x is the function's answer in the paper's terms. Assumes nothing.
use Rattle.std.specs.Prelude.{Err, None, Ok, Option, Result, Some}
use Rattle.std.specs.Option.{ok_or}
use Rattle.rules.specs.Choice.{given}
use Prim.Native.Nat.{ℕ, ◌+◌, ◌*◌, ◌-◌, ◌≤◌, ◌<◌}
use mathlib.Core.Bool.{Bool, true, false, not}
use mathlib.Core.List.{List, []}
use mathlib.Core.Path.{◌≡◌, refl, sym, ap, ◌∙◌}
use native.Mathlib.Omega.{arith}
use borrow.Author.Tests.{le-leb}
use lib.ListN.{length, take, drop}
use lib.Seq.{sets, length-sets}
use Rattle.rules.specs.Files.{CheckedTold, verdict}
use Rattle.rules.specs.Refusals.{Said, says, refuses, refusal, and_then, outcome, result_told}
use Rattle.rules.specs.Writes.{put_at}
use Rattle.rules.specs.declared.Checked.{Checked}
use Rattle.rules.specs.declared.Flight.{Flight}
use Rattle.rules.specs.declared.Refusal.{Refusal}
use Rattle.rules.proofs.Inverse.{refuses_says, then_inv}
use Rattle.shelf_rules.specs.Contents.{sound, slot_of, slot_bytes, word_bytes}
use Rattle.shelf_rules.specs.declared.Spot.{Spot}
use Rattle.shelf_rules.specs.Shelf.{shelf_seal, spot_for, add_said, after_add, held_at, ask_said, part_of, after_remove}
use Rattle.shelf_rules.specs.declared.Slot.{Slot}
use Rattle.shelf_rules.proofs.Bytes.{slot_length}
use Rattle.shelf_rules.proofs.Accepts.{holds, Adds, adds}
use Rattle.shelf_rules.specs.declared.Extent.{Extent}
use Rattle.shelf_rules.specs.Calls.{extent_of, FlightAdded, FlightAsked, BodyGiven, FlightRemoved}
use Rattle.shelf_place.proofs.Links.{need_so}

-- a refusal of one answer is that of another
refused_alike : {A B : Type 0} (w : Refusal) (n l b : ℕ) → ◌≡◌ {A = Said A} (refusal w) (refuses n l b) → ◌≡◌ {A = Said B} (refusal w) (refuses n l b)
refused_alike w n l b e = cc

-- what a look-up found, or the refusal in its place
pub found_told : {A : Type 0} (n r : Option A) (e : Refusal) (q : Result A Refusal) (a : Said A) → r ≡ n → q ≡ ok_or r e → refusal e ≡ a → result_told q ≡ given n a (λ v. says v)
unfolding result_told
found_told n (Some y) e q a h k z = rw (← h, k) refl
found_told n None e q a h k z = rw (← h, k) z

-- ---- the check of a file that is to be added

module _ (b : List ℕ) (number : ℕ) (file : List ℕ) (t : Bool) (e : t ≡ sound b) (g : not t ≡ false) (r : Checked) (c : CheckedTold (verdict shelf_seal file None) r) (x : Said Spot) where
  pub check_passed : r.outcome ≡ (Ok tt) → x ≡ spot_for b number (length file) → x ≡ add_said b number file
  unfolding add_said result_told
  check_passed k h = need_so (sound b) t x _ _ e g (told (verdict shelf_seal file None) (sym c.answer ∙ ap result_told k))
    where
      told : (v : Said Flight) → outcome v ≡ says tt → x ≡ and_then v (λ _. spot_for b number (length file))
      told (says f) k = h
      told (refuses n l y) k = absurd (refuses_says k)

  pub check_refused : (w : Refusal) → r.outcome ≡ Err w → x ≡ refusal w → x ≡ add_said b number file
  unfolding add_said result_told
  check_refused w k h = need_so (sound b) t x _ _ e g (told (verdict shelf_seal file None) (sym c.answer ∙ ap result_told k))
    where
      told : (v : Said Flight) → outcome v ≡ refusal w → x ≡ and_then v (λ _. spot_for b number (length file))
      told (says f) k = absurd (refuses_says (sym k))
      told (refuses n l y) k = h ∙ refused_alike w n l y (sym k)

-- ---- asking and removing

module _ (b : List ℕ) (number : ℕ) (r : Result ℕ Refusal) (e : result_told r ≡ held_at b number) where
  said : (n : ℕ) → r ≡ Ok n → held_at b number ≡ says n
  unfolding result_told
  said n g = sym e ∙ ap result_told g

  refused : (w : Refusal) → r ≡ Err w → held_at b number ≡ refusal w
  unfolding result_told
  refused w g = sym e ∙ ap result_told g

  pub ask_says : (n : ℕ) (s : Slot) → r ≡ Ok n → s ≡ slot_of b n → FlightAsked b number (Ok (record { start = s.start; size = s.size }))
  unfolding ask_said result_told
  ask_says n s g h = rw (said n g, h)

  pub ask_refused : (w : Refusal) → r ≡ Err w → FlightAsked b number (Err w)
  unfolding ask_said result_told
  ask_refused w g = rw (refused w g)

  pub remove_says : (n : ℕ) (s : Slot) (after : List ℕ) → r ≡ Ok n → (s.number ≡ 0) × ((s.start ≡ 0) × (s.size ≡ 0)) → after ≡ put_at b (12 * n) (slot_bytes s)
      → FlightRemoved b number (Ok tt) after
  unfolding after_remove result_told slot_bytes word_bytes put_at
  remove_says n s after g z f =
      let h = rw (z.0, z.1.0, z.1.1) at f in
      let k = holds b number n (said n g) in
      let i : 12 * n + 12 ≤ length b = let l = k.sound_shelf.least_room in let p = k.entry in omega arith in
      record { told = rw (said n g); bytes = rw (said n g) (h ∙ rw (le-leb (12 * n + 12) (length b) i)) }

  pub remove_refused : (w : Refusal) (after : List ℕ) → r ≡ Err w → after ≡ b → FlightRemoved b number (Err w) after
  unfolding after_remove result_told
  remove_refused w after g h = record { told = rw (refused w g); bytes = rw (refused w g) h }

-- the part that asking hands out lies inside
then_inside : (b : List ℕ) (number : ℕ) (t : Said ℕ) (s : Slot) → held_at b number ≡ t → and_then t (λ n. says (slot_of b n)) ≡ says s → s.start + s.size ≤ length b
then_inside b number (says n) s e g =
    let h = holds b number n e in
    let z : slot_of b n ≡ s = cc in
    let i = h.sound_shelf.kept.inside n h.entry (λ y. h.nonzero (sym h.is ∙ y)) in
    rw (← z) i
then_inside b number (refuses n l x) s e g = absurd (refuses_says g)

module _ (b : List ℕ) (number : ℕ) (r : Result Extent Refusal) (e : FlightAsked b number r) where
  record Stands (v : Extent) : Type 0 where
    pub slot : Slot
    pub told : ask_said b number ≡ says slot
    pub start_is : slot.start ≡ v.start
    pub size_is : slot.size ≡ v.size

  stands : (v : Extent) → r ≡ Ok v → Stands v
  unfolding result_told
  stands v g =
      let k = then_inv (ask_said b number) v (λ s. says (extent_of s)) (sym e ∙ ap result_told g) in
      let y : ◌≡◌ {A = Said Extent} (says (extent_of k.0)) (says v) = k.2 in
      let z : ◌≡◌ {A = Extent} (extent_of k.0) v = cc in
      record { slot = k.0; told = k.1; start_is = ap (λ (t : Extent). t.start) z; size_is = ap (λ (t : Extent). t.size) z }

  pub part_inside : (v : Extent) → r ≡ Ok v → v.start + v.size ≤ length b
  unfolding ask_said
  part_inside v g =
      let s = stands v g in
      let i = then_inside b number (held_at b number) s.slot refl s.told in
      rw (s.start_is, s.size_is) at i

  pub part_is : (v : Extent) (x : List ℕ) → r ≡ Ok v → x ≡ take (v.start + v.size - v.start) (drop v.start b) → BodyGiven b number x
  part_is v x g h =
      let s = stands v g in
      let z : v.start + v.size - v.start ≡ v.size = omega arith in
      rw (s.told, s.start_is, s.size_is) (h ∙ rw z)

  pub part_none : (w : Refusal) (x : List ℕ) → r ≡ Err w → x ≡ [] → BodyGiven b number x
  unfolding result_told
  part_none w x g h = no_part (ask_said b number) (sym e ∙ ap result_told g)
    where
      no_part : (t : Said Slot) → and_then t (λ s. says (extent_of s)) ≡ refusal w → x ≡ part_of t b
      no_part (says s) k = absurd (refuses_says (sym k))
      no_part (refuses n l y) k = h

-- ---- adding

module _ (b : List ℕ) (number : ℕ) (file : List ℕ) (r : Result Spot Refusal) (e : result_told r ≡ add_said b number file) where
  planned : (v : Spot) → r ≡ Ok v → add_said b number file ≡ says v
  unfolding result_told
  planned v g = sym e ∙ ap result_told g

  pub plan_adds : (v : Spot) → r ≡ Ok v → Adds b number file v.entry v.start
  plan_adds v g = adds b number file v (planned v g)

  plan_refused : (w : Refusal) → r ≡ Err w → add_said b number file ≡ refusal w
  unfolding result_told
  plan_refused w g = sym e ∙ ap result_told g

  pub start_small : (v : Spot) → r ≡ Ok v → v.start < 4294967296
  start_small v g = let d = plan_adds v g in let i = d.spot.place.inside in let m = d.sound_shelf.most_room in omega arith

  pub file_small : (v : Spot) → r ≡ Ok v → length file < 4294967296
  file_small v g = let d = plan_adds v g in let i = d.spot.place.inside in let m = d.sound_shelf.most_room in omega arith

  pub add_says : (v : Spot) (mid after : List ℕ) → r ≡ Ok v → mid ≡ put_at b v.start file
      → after ≡ put_at mid (12 * v.entry) (slot_bytes (record { number = number; start = v.start; size = length file })) → FlightAdded b number file (Ok v.start) after
  unfolding result_told after_add put_at
  add_says v mid after g h f =
      let p = planned v g in
      let d = plan_adds v g in
      let m : mid ≡ sets b v.start file = h ∙ rw (le-leb (v.start + length file) (length b) d.spot.place.inside) in
      let l = slot_length (record { number = number; start = v.start; size = length file }) in
      let i : 12 * v.entry + 12 ≤ length mid = let u = d.sound_shelf.least_room in let z = d.spot.entry in rw (m, length-sets) (omega arith) in
      let q = rw (l, le-leb (12 * v.entry + 12) (length mid) i) at f in
      record { told = rw p; bytes = rw p (q ∙ rw m) }

  pub add_refused : (w : Refusal) (after : List ℕ) → r ≡ Err w → after ≡ b → FlightAdded b number file (Err w) after
  unfolding result_told after_add
  add_refused w after g h = let p = plan_refused w g in record { told = rw p; bytes = rw p h }
