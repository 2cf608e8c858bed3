-- What each promise says in the words of a shelf. Assumes nothing.
use Rattle.rules.specs.declared.Refusal.{Refusal}
use Rattle.std.specs.Prelude.{None, Result, ⊤}
use Prim.Native.Nat.{ℕ, ◌+◌, ◌≤◌, ◌<◌}
use mathlib.Core.List.{List, []}
use mathlib.Core.Logic.{◌⊎◌, inl, inr, ◌↔◌}
use mathlib.Core.Path.{◌≡◌, refl, sym, ap, subst, ◌∙◌}
use native.Mathlib.Omega.{arith}
use lib.Dec.{eqb}
use lib.ListN.{length, get_or, drop}
use lib.Seq.{get_or-take, get_or-drop}
use Rattle.rules.specs.Refusals.{Said, says, refuses, and_then, outcome, result_told}
use Rattle.rules.specs.declared.Seal.TheVariants as seal
use Rattle.rules.proofs.Inverse.{refuses_says, false_true, then_inv}
use Rattle.grammar.proofs.Demands.{refused_first}
use Rattle.grammar_untabled.proofs.NeverFull.{check_never_full}
use Rattle.shelf_rules.specs.Contents.{start_of, size_of, slot_of, held}
use Rattle.shelf_rules.specs.Packing.{Packed}
use Rattle.shelf_rules.specs.Shelf.{add_said, after_add, held_at, after_remove, ask_said, part_of}
use Rattle.shelf_rules.specs.declared.Slot.{Slot}
use Rattle.shelf_rules.proofs.Bytes.{length_run}
use Rattle.shelf_rules.proofs.Accepts.{Holds, Adds, adds, holds}
use Rattle.shelf_pack.specs.Pack.{ShelfPacked}
use Rattle.shelf_rules.specs.declared.Extent.{Extent}
use Rattle.shelf_rules.specs.Calls.{extent_of, FlightAdded, FlightAsked, BodyGiven, FlightRemoved}
use Rattle.claims_shelf.specs.Weekend.{IsShelf, FreeRun, Broken, AddRefused, NotFound, AddsAt, Puts, HeldIn, Zeroes, Packs, AskedAsBefore, FoundAsBefore, AskedAs, AskedInVain}
use Rattle.claims_shelf.proofs.Answers.{by_sum, then_ways, add_refuses, add_said_lem, adds_at, held_refuses, held_says, held_in, then_held, pack_refuses, pack_says}
use Rattle.claims_shelf.proofs.After.{Same, add_keeps, add_puts, add_asked, add_same, remove_keeps, remove_zeroes, remove_asked, remove_same}
use Rattle.claims_shelf.proofs.Packs.{pack_keeps, pack_packs, pack_asked, pack_free_run}
use Rattle.claims_shelf.proofs.Words.{keeps_sound}

-- ---- what asking says, as an answer of the call

abbrev extent : Said Slot → Said Extent
extent v = and_then v (λ s. says (extent_of s))

extent_outcome : (v : Said Slot) → outcome (extent v) ≡ outcome v
extent_outcome (says s) = refl
extent_outcome (refuses n l x) = refl

module _ (b c : List ℕ) (x : ℕ) where
  as_before : Same b c (ask_said c x) (ask_said b x) → AskedAsBefore b c x
  as_before w = ((λ r r' e e'. e' ∙ ap extent w.0 ∙ sym e), (λ p p' e e'. e' ∙ w.1 ∙ sym e))

  found_before : (outcome (ask_said c x) ≡ outcome (ask_said b x)) × (part_of (ask_said c x) c ≡ part_of (ask_said b x) b) → FoundAsBefore b c x
  found_before w = (
    (λ r r' e e'. ap outcome e' ∙ extent_outcome (ask_said c x) ∙ w.0 ∙ sym (ap outcome e ∙ extent_outcome (ask_said b x))),
    (λ p p' e e'. e' ∙ w.1 ∙ sym e),
  )

-- ---- adding

module _ (b : List ℕ) (number : ℕ) (file : List ℕ) (r : Result ℕ Refusal) (after : List ℕ) (w : FlightAdded b number file r after) where
  refused_so : (n l x : ℕ) → result_told r ≡ refuses n l x → add_said b number file ≡ refuses n l x
  refused_so n l x h = by_sum (then_ways (add_said b number file) (λ s. says s.start) n l x (sym w.told ∙ h)) (λ p. p) (λ p. absurd (refuses_says (sym p.2)))

  pub add_refused_first : (n l x : ℕ) → (result_told r ≡ refuses n l x) ↔ AddRefused b number file n l x
  add_refused_first n l x = (
    (λ h. (add_refuses b number file n l x).0 (refused_so n l x h)),
    (λ v. w.told ∙ rw ((add_refuses b number file n l x).1 v)),
  )

  pub add_refused_leaves : (n l x : ℕ) → result_told r ≡ refuses n l x → after ≡ b
  unfolding after_add
  add_refused_leaves n l x h = w.bytes ∙ rw (refused_so n l x h)

  pub add_never_full : (n l x : ℕ) → result_told r ≡ refuses n l x → n ≡ 15 → ⊥
  add_never_full n l x h z = by ((add_refused_first n l x).0 h)
    where
      by : AddRefused b number file n l x → ⊥
      by (inl v) = omega (arith, v.0.0)
      by (inr (inl v)) = false_true (sym (check_never_full seal.Usual file n l x ((refused_first seal.Usual file None n l x).1 v.1)) ∙ ap (λ (k : ℕ). eqb k 15) z)
      by (inr (inr (inl v))) = omega (arith, v.0.0)
      by (inr (inr (inr (inl v)))) = omega (arith, v.0.0)
      by (inr (inr (inr (inr v)))) = omega (arith, v.0.0)

  pub add_takes : (at : ℕ) → (result_told r ≡ says at) ↔ ((k : ℕ) × AddsAt b number file k at)
  add_takes at = (
    (λ h.
        let s = then_inv (add_said b number file) at (λ s. says s.start) (sym w.told ∙ h) in
        let q : ◌≡◌ {A = Said ℕ} (says s.0.start) (says at) = s.2 in
        let z : s.0.start ≡ at = cc in
        (s.0.entry, subst (λ (a : ℕ). AddsAt b number file s.0.entry a) z (adds_at b number file s.0.entry s.0.start s.1))),
    (λ v. w.told ∙ rw (add_said_lem b number file v.0 at v.1)),
  )

  module _ (small : number < 4294967296) where
    module _ (k at : ℕ) (v : AddsAt b number file k at) where
      spot : add_said b number file ≡ says (record { entry = k; start = at })
      spot = add_said_lem b number file k at v

      accepted : Adds b number file k at
      accepted = adds b number file (record { entry = k; start = at }) spot

      pub add_changes_only : Puts b number file k at after
      unfolding after_add
      add_changes_only = rw (w.bytes, spot) (add_puts b file number k at accepted v.both.1.least small)

      pub added_is_asked : AskedAs after number at file
      unfolding after_add
      added_is_asked = rw (w.bytes, spot) (
          let a = add_asked b file number k at accepted v.both.1.least small in
          ((λ y f. f ∙ ap extent a.0), (λ p f. f ∙ a.1))
          )

      stays : IsShelf after
      unfolding after_add
      stays = rw (w.bytes, spot) (add_keeps b file number k at accepted v.both.1.least small)

      others : (x : ℕ) → (x ≡ number → ⊥) → Same b after (ask_said after x) (ask_said b x)
      unfolding after_add
      others x d = rw (w.bytes, spot) (add_same b file number k at accepted v.both.1.least small x d)

    pub add_keeps_rules : IsShelf b → IsShelf after
    add_keeps_rules s = by (result_told r) refl
      where
        by : (v : Said ℕ) → result_told r ≡ v → IsShelf after
        by (says at) h = let v = (add_takes at).0 h in stays v.0 at v.1
        by (refuses n l x) h = rw (add_refused_leaves n l x h) s

    pub others_after_add : (x : ℕ) → (x ≡ number → ⊥) → AskedAsBefore b after x
    others_after_add x d = by (result_told r) refl
      where
        by : (v : Said ℕ) → result_told r ≡ v → AskedAsBefore b after x
        by (says at) h = let v = (add_takes at).0 h in as_before b after x (others v.0 at v.1 x d)
        by (refuses n l y) h = rw (add_refused_leaves n l y h) (as_before b b x (refl, refl))

-- ---- asking

module _ (b : List ℕ) (number : ℕ) (r : Result Extent Refusal) (w : FlightAsked b number r) where
  pub ask_refused_first : (n l x : ℕ) → (result_told r ≡ refuses n l x) ↔ (Broken b n l x ⊎ NotFound b number n l x)
  unfolding ask_said
  ask_refused_first n l x = (
    (λ h. by_sum (then_ways (ask_said b number) (λ s. says (extent_of s)) n l x (sym w ∙ h)) (λ p. (then_held b number (slot_of b) n l x).0 p) (λ p. absurd (refuses_says (sym p.2)))),
    (λ v. w ∙ ap extent ((then_held b number (slot_of b) n l x).1 v)),
  )

  pub ask_finds : (start size : ℕ) → (result_told r ≡ says (record { start = start; size = size })) ↔ ((n : ℕ) × HeldIn b number n × (start_of b n ≡ start) × (size_of b n ≡ size))
  unfolding ask_said
  ask_finds start size = (
    (λ h.
        let x : Extent = record { start = start; size = size } in
        let s = then_inv (ask_said b number) (record { start = start; size = size }) (λ s. says (extent_of s)) (sym w ∙ h) in
        let v = then_inv (held_at b number) s.0 (λ n. says (slot_of b n)) s.1 in
        let q : ◌≡◌ {A = Said Slot} (says (slot_of b v.0)) (says s.0) = v.2 in
        let z : slot_of b v.0 ≡ s.0 = cc in
        let q' : ◌≡◌ {A = Said Extent} (says (extent_of s.0)) (says (record { start = start; size = size })) = s.2 in
        let z' : ◌≡◌ {A = Extent} (extent_of s.0) (record { start = start; size = size }) = cc in
        let y : ◌≡◌ {A = Extent} (extent_of (slot_of b v.0)) (record { start = start; size = size }) = ap extent_of z ∙ z' in
        (v.0, held_in b number v.0 v.1, ap (λ (u : Extent). u.start) y, ap (λ (u : Extent). u.size) y)),
    (λ v. w ∙ rw (held_says b number v.0 v.1, v.2, v.3)),
  )

module _ (b : List ℕ) (number : ℕ) (p : List ℕ) (w : BodyGiven b number p) where
  -- as many bytes as the entry tells, from its start on
  pub body_is_part : (n : ℕ) → HeldIn b number n → (length p ≡ size_of b n) × ((i : ℕ) → i < size_of b n → get_or p i 0 ≡ get_or b (start_of b n + i) 0)
  unfolding ask_said
  body_is_part n v =
      let h = (keeps_sound b v.0).kept.inside n v.2 (λ z. v.1 (sym v.3 ∙ z)) in
      rw (w, held_says b number n v) (length_run (start_of b n) (size_of b n) b h, λ i q. get_or-take (size_of b n) (drop (start_of b n) b) i 0 q ∙ get_or-drop (start_of b n) b i 0)

  pub no_body : (n l x : ℕ) → Broken b n l x ⊎ NotFound b number n l x → p ≡ []
  unfolding ask_said
  no_body n l x v = w ∙ rw ((held_refuses b number n l x).1 v)

-- ---- removing

module _ (b : List ℕ) (number : ℕ) (r : Result ⊤ Refusal) (after : List ℕ) (w : FlightRemoved b number r after) where
  pub remove_refused_first : (n l x : ℕ) → (result_told r ≡ refuses n l x) ↔ (Broken b n l x ⊎ NotFound b number n l x)
  remove_refused_first n l x = (
    (λ h. (then_held b number (λ m. tt) n l x).0 (sym w.told ∙ h)),
    (λ v. w.told ∙ (then_held b number (λ m. tt) n l x).1 v),
  )

  pub remove_refused_leaves : (n l x : ℕ) → result_told r ≡ refuses n l x → after ≡ b
  unfolding after_remove
  remove_refused_leaves n l x h = w.bytes ∙ rw ((held_refuses b number n l x).1 ((remove_refused_first n l x).0 h))

  pub remove_finds : (result_told r ≡ says tt) ↔ ((n : ℕ) × HeldIn b number n)
  remove_finds = (
    (λ h. let v = then_inv (held_at b number) tt (λ n. says tt) (sym w.told ∙ h) in (v.0, held_in b number v.0 v.1)),
    (λ v. w.told ∙ rw (held_says b number v.0 v.1)),
  )

  module _ (n : ℕ) (v : HeldIn b number n) where
    found : Holds b number n
    found = holds b number n (held_says b number n v)

    pub remove_changes_only : Zeroes b n after
    unfolding after_remove
    remove_changes_only = rw (w.bytes, held_says b number n v) (remove_zeroes b number n found)

    pub removed_is_gone : AskedInVain after number
    unfolding after_remove
    removed_is_gone = rw (w.bytes, held_says b number n v) (λ y f. f ∙ ap extent (remove_asked b number n found))

    gone_stays : IsShelf after
    unfolding after_remove
    gone_stays = rw (w.bytes, held_says b number n v) (remove_keeps b number n found)

    gone_others : (x : ℕ) → (x ≡ number → ⊥) → Same b after (ask_said after x) (ask_said b x)
    unfolding after_remove
    gone_others x d = rw (w.bytes, held_says b number n v) (remove_same b number n found x d)

  pub remove_keeps_rules : IsShelf b → IsShelf after
  remove_keeps_rules s = by (result_told r) refl
    where
      by : (v : Said (Unit {0})) → result_told r ≡ v → IsShelf after
      by (says u) h = let v = remove_finds.0 h in gone_stays v.0 v.1
      by (refuses n l x) h = rw (remove_refused_leaves n l x h) s

  pub others_after_remove : (x : ℕ) → (x ≡ number → ⊥) → AskedAsBefore b after x
  others_after_remove x d = by (result_told r) refl
    where
      by : (v : Said (Unit {0})) → result_told r ≡ v → AskedAsBefore b after x
      by (says u) h = let v = remove_finds.0 h in as_before b after x (gone_others v.0 v.1 x d)
      by (refuses n l y) h = rw (remove_refused_leaves n l y h) (as_before b b x (refl, refl))

-- ---- packing

module _ (b : List ℕ) (r : Result ⊤ Refusal) (after : List ℕ) (w : ShelfPacked b r after) where
  pub pack_refused_first : (n l x : ℕ) → (result_told r ≡ refuses n l x) ↔ Broken b n l x
  pack_refused_first n l x = ((λ h. (pack_refuses b n l x).0 (sym w.told ∙ h)), (λ v. w.told ∙ (pack_refuses b n l x).1 v))

  pub pack_refused_leaves : (n l x : ℕ) → result_told r ≡ refuses n l x → after ≡ b
  pack_refused_leaves n l x h = w.bytes.refused (λ s. refuses_says (sym h ∙ w.told ∙ s))

  pub pack_does : (result_told r ≡ says tt) ↔ IsShelf b
  pack_does = ((λ h. (pack_says b).0 (sym w.told ∙ h)), (λ s. w.told ∙ (pack_says b).1 s))

  module _ (s : IsShelf b) where
    done : Packed b after
    done = w.bytes.packed ((pack_says b).1 s)

    pub pack_changes_only : Packs b after
    pack_changes_only = pack_packs b after (keeps_sound b s) done

    pub pack_keeps_rules : IsShelf after
    pack_keeps_rules = pack_keeps b after (keeps_sound b s) done

    pub packed_free_run : (size : ℕ) → ((at : ℕ) × FreeRun after at size) ↔ (768 + held b + size ≤ length b)
    packed_free_run = pack_free_run b after (keeps_sound b s) done

  pub all_after_pack : (x : ℕ) → FoundAsBefore b after x
  all_after_pack x = by (result_told r) refl
    where
      by : (v : Said (Unit {0})) → result_told r ≡ v → FoundAsBefore b after x
      by (says u) h = found_before b after x (pack_asked b after (keeps_sound b (pack_does.0 h)) (done (pack_does.0 h)) x)
      by (refuses n l y) h = rw (pack_refused_leaves n l y h) (found_before b b x (refl, refl))
