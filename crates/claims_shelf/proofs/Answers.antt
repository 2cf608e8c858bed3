-- What each call answers, exactly: which refusal comes first, and what is found where none comes. Assumes nothing.
use Rattle.std.specs.Prelude.{None, Option, Some}
use Prim.Native.Nat.{ℕ}
use mathlib.Core.Bool.{Bool, true, false, not}
use mathlib.Core.List.{List}
use mathlib.Core.Logic.{◌⊎◌, inl, inr, ◌↔◌}
use mathlib.Core.Path.{◌≡◌, refl, sym, ap, ◌∙◌}
use native.Mathlib.Omega.{arith}
use borrow.Author.Tests.{eq-eqb, ne_eqb, eqb-true, eqb-false, not-false, not-true}
use lib.Dec.{eqb}
use lib.ListN.{length}
use Rattle.rules.specs.Choice.{given, need}
use Rattle.rules.specs.Files.{verdict}
use Rattle.rules.specs.Refusals.{number, Said, says, refuses, no, and_then}
use Rattle.rules.specs.declared.Flight.{Flight}
use Rattle.rules.specs.declared.Reason.TheVariants as reason
use Rattle.rules.specs.declared.Seal.TheVariants as seal
use Rattle.rules.proofs.Inverse.{refuses_says, false_true, then_inv}
use Rattle.grammar.specs.Grammar.{Meets, flight_of}
use Rattle.grammar.proofs.Demands.{accepted_as, refused_first}
use Rattle.shelf_rules.specs.Contents.{number_of, sound}
use Rattle.shelf_rules.specs.declared.Spot.{Spot}
use Rattle.shelf_rules.specs.Shelf.{entry_of, place_for, usable, spot_for, add_said, held_at}
use Rattle.shelf_rules.specs.Packing.{pack_said}
use Rattle.shelf_rules.proofs.Tests.{by_eq}
use Rattle.claims_shelf.specs.Weekend.{IsShelf, InUse, Unplaced, Broken, Both, New, AddRefused, NotFound, AddsAt, HeldIn}
use Rattle.claims_shelf.proofs.Words.{keeps_exactly, breaks_exactly, keeps_sound, entry_exactly, no_entry_exactly, place_exactly, no_place_exactly}

-- ---- a chain that came to x came there by one of its links

-- the case first, so that what is done with it knows what it is
module _ {A B C : Type 0} where
  pub by_sum : A ⊎ B → (A → C) → (B → C) → C
  by_sum (inl a) f g = f a
  by_sum (inr b) f g = g b

need_ways : {A : Type 0} (t : Bool) (a x : A) (f : Unit {0} → A) → need t a f ≡ x → ((t ≡ false) × (a ≡ x)) ⊎ ((t ≡ true) × (f tt ≡ x))
need_ways true a x f e = inr (refl, e)
need_ways false a x f e = inl (refl, e)

given_ways : {A B : Type 0} (o : Option A) (a x : B) (f : A → B) → given o a f ≡ x → ((o ≡ None) × (a ≡ x)) ⊎ ((v : A) × (o ≡ Some v) × (f v ≡ x))
given_ways (Some v) a x f e = inr (v, refl, e)
given_ways None a x f e = inl (refl, e)

pub then_ways : {A B : Type 0} (s : Said A) (f : A → Said B) (n l x : ℕ) → and_then s f ≡ refuses n l x → (s ≡ refuses n l x) ⊎ ((v : A) × (s ≡ says v) × (f v ≡ refuses n l x))
then_ways (says v) f n l x e = inr (v, refl, e)
then_ways (refuses k m y) f n l x e = inl cc

-- a refusal by its parts
parts : {A : Type 0} (a c d n l x : ℕ) → ◌≡◌ {A = Said A} (refuses a c d) (refuses n l x) → (n ≡ a) × (l ≡ c) × (x ≡ d)
parts a c d n l x e = (cc, cc, cc)

whole : {A : Type 0} (k n l x : ℕ) → Unplaced k n l x → ◌≡◌ {A = Said A} (refuses k 0 0) (refuses n l x)
whole k n l x u = rw (u.0, u.1, u.2)

-- ---- the file

pub met : (file : List ℕ) (f : Flight) → verdict seal.Usual file None ≡ says f → Meets seal.Usual file
met file f e = ((accepted_as seal.Usual file None f).0 e).0

pub meets_so : (file : List ℕ) (m : Meets seal.Usual file) → verdict seal.Usual file None ≡ says (flight_of m)
meets_so file m = (accepted_as seal.Usual file None (flight_of m)).1 (m, tt, refl)

-- ---- the number

module _ (b : List ℕ) (number : ℕ) where
  pub used_or_not : InUse b number ⊎ (InUse b number → ⊥)
  used_or_not = by (entry_of b number) refl
    where
      by : (o : Option ℕ) → entry_of b number ≡ o → InUse b number ⊎ (InUse b number → ⊥)
      by (Some k) e = let w = (entry_exactly b number k).0 e in inl (k, w.0, w.1)
      by None e = inr ((no_entry_exactly b number).0 e)

  used_first : InUse b number → (k : ℕ) × (entry_of b number ≡ Some k)
  used_first u = by (entry_of b number) refl
    where
      by : (o : Option ℕ) → entry_of b number ≡ o → (k : ℕ) × (entry_of b number ≡ Some k)
      by (Some k) e = (k, e)
      by None e = absurd ((no_entry_exactly b number).0 e u)

  usable_new : New b number → usable b number ≡ true
  unfolding usable
  usable_new w = rw (ne_eqb number 0 w.0, (no_entry_exactly b number).1 w.1)

  usable_zero : number ≡ 0 → usable b number ≡ false
  unfolding usable
  usable_zero z = rw (eq-eqb number 0 z)

  usable_used : InUse b number → usable b number ≡ false
  unfolding usable
  usable_used u = by_eq number 0 usable_zero (λ z. rw (ne_eqb number 0 z, (used_first u).1))

  usable_not : (number ≡ 0) ⊎ InUse b number → usable b number ≡ false
  usable_not w = by_sum w usable_zero usable_used

  new_or_not : New b number ⊎ ((number ≡ 0) ⊎ InUse b number)
  new_or_not = by_eq number 0 (λ z. inr (inl z)) (λ z. by_sum used_or_not (λ u. inr (inr u)) (λ u. inl (z, u)))

  usable_reads : usable b number ≡ true → New b number
  usable_reads e = by_sum new_or_not (λ w. w) (λ w. absurd (false_true (sym (usable_not w) ∙ e)))

  unusable_reads : usable b number ≡ false → (number ≡ 0) ⊎ InUse b number
  unusable_reads e = by_sum new_or_not (λ w. absurd (false_true (sym e ∙ usable_new w))) (λ w. w)

-- ---- adding

module _ (b : List ℕ) (number : ℕ) (file : List ℕ) where
  abbrev spot : ℕ → ℕ → Said Spot
  spot k at = says (record { entry = k; start = at })

  abbrev placed : ℕ → Said Spot
  placed k = given (place_for b (length file)) (refuses 30 0 0) (spot k)

  abbrev entered : Said Spot
  entered = given (entry_of b 0) (refuses 29 0 0) placed

  abbrev named : Said Spot
  named = need (usable b number) (refuses 28 0 0) λ _. entered

  abbrev checked : Said Spot
  checked = and_then (verdict seal.Usual file None) λ _. named

  abbrev asked : Said Spot
  asked = need (sound b) (refuses 27 0 0) λ _. checked

  is_asked : add_said b number file ≡ asked
  unfolding add_said spot_for number
  is_asked = refl

  -- the five refusals, one after the other
  in_run : (n l x k : ℕ) → Both b file → New b number → entry_of b 0 ≡ Some k → placed k ≡ refuses n l x → AddRefused b number file n l x
  in_run n l x k w new e g = by_sum (given_ways (place_for b (length file)) (refuses 30 0 0) (refuses n l x) (spot k) g)
      (λ p.
      let f = (entry_exactly b 0 k).0 e in
      inr (inr (inr (inr (parts 30 0 0 n l x p.1, w, new, (k, f.0, f.1), (no_place_exactly b (keeps_sound b w.0) (length file) w.1.least).0 p.0)))))
      (λ p. absurd (refuses_says (sym p.2)))

  in_entries : (n l x : ℕ) → Both b file → New b number → entered ≡ refuses n l x → AddRefused b number file n l x
  in_entries n l x w new g = by_sum (given_ways (entry_of b 0) (refuses 29 0 0) (refuses n l x) placed g)
      (λ p. inr (inr (inr (inl (parts 29 0 0 n l x p.1, w, new, (no_entry_exactly b 0).0 p.0)))))
      (λ p. in_run n l x p.0 w new p.1 p.2)

  in_id : (n l x : ℕ) → Both b file → named ≡ refuses n l x → AddRefused b number file n l x
  in_id n l x w g = by_sum (need_ways (usable b number) (refuses 28 0 0) (refuses n l x) (λ _. entered) g)
      (λ p. inr (inr (inl (parts 28 0 0 n l x p.1, w, unusable_reads b number p.0))))
      (λ p. in_entries n l x w (usable_reads b number p.0) p.1)

  in_file : (n l x : ℕ) → IsShelf b → checked ≡ refuses n l x → AddRefused b number file n l x
  in_file n l x s g = by_sum (then_ways (verdict seal.Usual file None) (λ _. named) n l x g)
      (λ p. inr (inl (s, (refused_first seal.Usual file None n l x).0 p)))
      (λ p. in_id n l x (s, met file p.0 p.1) p.2)

  in_shelf : (n l x : ℕ) → asked ≡ refuses n l x → AddRefused b number file n l x
  in_shelf n l x g = by_sum (need_ways (sound b) (refuses 27 0 0) (refuses n l x) (λ _. checked) g)
      (λ p. inl (parts 27 0 0 n l x p.1, (breaks_exactly b).0 p.0))
      (λ p. in_file n l x ((keeps_exactly b).0 p.0) p.1)

  by_shelf : IsShelf b → asked ≡ checked
  by_shelf s = rw ((keeps_exactly b).1 s)

  by_file : Both b file → asked ≡ named
  by_file w = by_shelf w.0 ∙ rw (meets_so file w.1)

  by_number : Both b file → New b number → asked ≡ entered
  by_number w new = by_file w ∙ rw (usable_new b number new)

  back : (n l x : ℕ) → AddRefused b number file n l x → asked ≡ refuses n l x
  back n l x (inl w) = rw ((breaks_exactly b).1 w.1) (whole 27 n l x w.0)
  back n l x (inr (inl w)) = by_shelf w.0 ∙ rw ((refused_first seal.Usual file None n l x).1 w.1)
  back n l x (inr (inr (inl w))) = by_file w.1 ∙ rw (usable_not b number w.2) (whole 28 n l x w.0)
  back n l x (inr (inr (inr (inl w)))) = by_number w.1 w.2 ∙ rw ((no_entry_exactly b 0).1 w.3) (whole 29 n l x w.0)
  back n l x (inr (inr (inr (inr w)))) =
      let k = used_first b 0 w.3 in
      by_number w.1 w.2 ∙ rw (k.1, (no_place_exactly b (keeps_sound b w.1.0) (length file) w.1.1.least).1 w.4) (whole 30 n l x w.0)

  pub add_refuses : (n l x : ℕ) → (add_said b number file ≡ refuses n l x) ↔ AddRefused b number file n l x
  add_refuses n l x = ((λ e. in_shelf n l x (sym is_asked ∙ e)), (λ w. is_asked ∙ back n l x w))

  -- where none comes
  pub add_said_lem : (k at : ℕ) → AddsAt b number file k at → add_said b number file ≡ says (record { entry = k; start = at })
  add_said_lem k at w =
      is_asked ∙ by_number w.both w.new
      ∙ rw ((entry_exactly b 0 k).1 w.entry, (place_exactly b (keeps_sound b w.both.0) (length file) w.both.1.least at).1 w.start)

  to_run : (k at e : ℕ) → Both b file → New b number → entry_of b 0 ≡ Some e → placed e ≡ spot k at → AddsAt b number file k at
  to_run k at e w new f g = by_sum (given_ways (place_for b (length file)) (refuses 30 0 0) (spot k at) (spot e) g)
      (λ p. absurd (refuses_says p.1))
      (λ p.
      let y : ◌≡◌ {A = Said Spot} (spot e p.0) (spot k at) = p.2 in
      let z : ◌≡◌ {A = Spot} (record { entry = e; start = p.0 }) (record { entry = k; start = at }) = cc in
      let i : e ≡ k = ap (λ (t : Spot). t.entry) z in
      let j : p.0 ≡ at = ap (λ (t : Spot). t.start) z in
      record {
        both = w;
        new = new;
        entry = (entry_exactly b 0 k).0 (rw i at f);
        start = (place_exactly b (keeps_sound b w.0) (length file) w.1.least at).0 (rw j at p.1);
      })

  to_entries : (k at : ℕ) → Both b file → New b number → entered ≡ spot k at → AddsAt b number file k at
  to_entries k at w new g = by_sum (given_ways (entry_of b 0) (refuses 29 0 0) (spot k at) placed g)
      (λ p. absurd (refuses_says p.1))
      (λ p. to_run k at p.0 w new p.1 p.2)

  to_id : (k at : ℕ) → Both b file → named ≡ spot k at → AddsAt b number file k at
  to_id k at w g = by_sum (need_ways (usable b number) (refuses 28 0 0) (spot k at) (λ _. entered) g)
      (λ p. absurd (refuses_says p.1))
      (λ p. to_entries k at w (usable_reads b number p.0) p.1)

  to_file : (k at : ℕ) → IsShelf b → checked ≡ spot k at → AddsAt b number file k at
  to_file k at s g =
      let p = then_inv (verdict seal.Usual file None) (record { entry = k; start = at }) (λ _. named) g in
      to_id k at (s, met file p.0 p.1) p.2

  pub adds_at : (k at : ℕ) → add_said b number file ≡ says (record { entry = k; start = at }) → AddsAt b number file k at
  adds_at k at e = by_sum (need_ways (sound b) (refuses 27 0 0) (spot k at) (λ _. checked) (sym is_asked ∙ e))
      (λ p. absurd (refuses_says p.1))
      (λ p. to_file k at ((keeps_exactly b).0 p.0) p.1)

-- ---- asking and removing

module _ (b : List ℕ) (number : ℕ) where
  abbrev found : Said ℕ
  found = given (entry_of b number) (refuses 31 0 0) λ n. says n

  abbrev looked : Said ℕ
  looked = need (not (eqb number 0)) (refuses 31 0 0) λ _. found

  is_looked : held_at b number ≡ (need (sound b) (refuses 27 0 0) λ _. looked)
  unfolding held_at number
  is_looked = refl

  in_found : (n l x : ℕ) → IsShelf b → looked ≡ refuses n l x → NotFound b number n l x
  in_found n l x s g = by_sum (need_ways (not (eqb number 0)) (refuses 31 0 0) (refuses n l x) (λ _. found) g)
      (λ p. (parts 31 0 0 n l x p.1, s, inl (eqb-true number 0 (not-false (eqb number 0) p.0))))
      (λ p. by_sum (given_ways (entry_of b number) (refuses 31 0 0) (refuses n l x) (λ m. says m) p.1)
      (λ q. (parts 31 0 0 n l x q.1, s, inr ((no_entry_exactly b number).0 q.0)))
      (λ q. absurd (refuses_says (sym q.2))))

  back_found : (n l x : ℕ) → Broken b n l x ⊎ NotFound b number n l x → held_at b number ≡ refuses n l x
  back_found n l x (inl w) = is_looked ∙ rw ((breaks_exactly b).1 w.1) (whole 27 n l x w.0)
  back_found n l x (inr w) = is_looked ∙ rw ((keeps_exactly b).1 w.1) (by_eq number 0
      (λ z. rw (eq-eqb number 0 z) (whole 31 n l x w.0))
      (λ z. by_sum w.2
      (λ e. absurd (z e))
      (λ u. rw (ne_eqb number 0 z, (no_entry_exactly b number).1 u) (whole 31 n l x w.0))))

  pub held_refuses : (n l x : ℕ) → (held_at b number ≡ refuses n l x) ↔ (Broken b n l x ⊎ NotFound b number n l x)
  held_refuses n l x = (
    (λ e. by_sum (need_ways (sound b) (refuses 27 0 0) (refuses n l x) (λ _. looked) (sym is_looked ∙ e))
        (λ p. inl (parts 27 0 0 n l x p.1, (breaks_exactly b).0 p.0))
        (λ p. inr (in_found n l x ((keeps_exactly b).0 p.0) p.1))),
    back_found n l x,
  )

  -- a shelf has one entry of a flight, and it is the first
  pub held_says : (n : ℕ) → HeldIn b number n → held_at b number ≡ says n
  held_says n w =
      let u : number_of b n ≡ 0 → ⊥ = λ z. w.1 (sym w.3 ∙ z) in
      is_looked
      ∙ rw (
        (keeps_exactly b).1 w.0,
        ne_eqb number 0 w.1,
        (entry_exactly b number n).1 (w.2, w.3, λ m h e. let z = w.0.once n m w.2 (let p = w.2 in omega arith) u (w.3 ∙ sym e) in omega arith),
      )

  pub held_in : (n : ℕ) → held_at b number ≡ says n → HeldIn b number n
  held_in n e = by_sum (need_ways (sound b) (refuses 27 0 0) (says n) (λ _. looked) (sym is_looked ∙ e))
      (λ p. absurd (refuses_says p.1))
      (λ p. by_sum (need_ways (not (eqb number 0)) (refuses 31 0 0) (says n) (λ _. found) p.1)
      (λ q. absurd (refuses_says q.1))
      (λ q. by_sum (given_ways (entry_of b number) (refuses 31 0 0) (says n) (λ m. says m) q.1)
      (λ r. absurd (refuses_says r.1))
      (λ r.
      let y : ◌≡◌ {A = Said ℕ} (says r.0) (says n) = r.2 in
      let z : r.0 ≡ n = cc in
      let w = (entry_exactly b number n).0 (rw z at r.1) in
      ((keeps_exactly b).0 p.0, eqb-false number 0 (not-true (eqb number 0) q.0), w.0, w.1))))

  -- whatever is said of the entry found, its refusals are the same
  pub then_held : {A : Type 0} (f : ℕ → A) (n l x : ℕ) → (and_then (held_at b number) (λ m. says (f m)) ≡ refuses n l x) ↔ (Broken b n l x ⊎ NotFound b number n l x)
  then_held f n l x = (
    (λ e. by_sum (then_ways (held_at b number) (λ m. says (f m)) n l x e) (λ p. (held_refuses n l x).0 p) (λ p. absurd (refuses_says (sym p.2)))),
    (λ w. rw ((held_refuses n l x).1 w)),
  )

-- ---- packing

pub pack_refuses : (b : List ℕ) (n l x : ℕ) → (pack_said b ≡ refuses n l x) ↔ Broken b n l x
unfolding number
pack_refuses b n l x = (
  (λ e. by_sum (need_ways (sound b) (refuses 27 0 0) (refuses n l x) (λ _. says tt) e)
      (λ p. (parts 27 0 0 n l x p.1, (breaks_exactly b).0 p.0))
      (λ p. absurd (refuses_says (sym p.1)))),
  (λ w. rw ((breaks_exactly b).1 w.1) (whole 27 n l x w.0)),
)

pub pack_says : (b : List ℕ) → (pack_said b ≡ says tt) ↔ IsShelf b
pack_says b = (
  (λ e. by_sum (need_ways (sound b) (no reason.Shelf 0) (says tt) (λ _. says tt) e) (λ p. absurd (refuses_says p.1)) (λ p. (keeps_exactly b).0 p.0)),
  (λ s. rw ((keeps_exactly b).1 s)),
)
