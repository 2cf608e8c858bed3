-- What a track answers, and the list afterwards, from the promise of the call. Assumes nothing.
use Rattle.rules.specs.declared.Refusal.{Refusal}
use Rattle.std.specs.Prelude.{None, Result}
use Prim.Native.Nat.{ℕ, ◌≤◌, ◌<◌}
use mathlib.Core.Bool.{Bool, true, false}
use mathlib.Core.List.{List, ◌++◌}
use mathlib.Core.Logic.{◌⊎◌, inl, inr, ◌↔◌}
use mathlib.Core.Path.{◌≡◌, refl, sym, ap, subst, ◌∙◌}
use native.Mathlib.Omega.{arith}
use borrow.Author.Tests.{le-leb, lt-leb, leb-false}
use lib.Dec.{eqb, leb}
use lib.ListN.{length, drop}
use Rattle.rules.specs.Choice.{need}
use Rattle.rules.specs.Families.{count_of}
use Rattle.rules.specs.Files.{verdict}
use Rattle.rules.specs.Refusals.{number, Said, says, refuses, no, and_then, result_told}
use Rattle.rules.specs.declared.Family.TheVariants as family
use Rattle.rules.specs.declared.Flight.{Flight}
use Rattle.rules.specs.declared.Reason.TheVariants as reason
use Rattle.rules.proofs.Inverse.{refuses_says, false_true}
use Rattle.grammar.specs.Faults.{Refused}
use Rattle.grammar.specs.Grammar.{Meets, flight_of}
use Rattle.grammar.proofs.Demands.{accepted_as, refused_first}
use Rattle.grammar_untabled.proofs.NeverFull.{check_never_full}
use Rattle.track_rules.specs.Track.{track_seal, track_of, flight_tracked, track_said, list_after}
use Rattle.track_rules.specs.declared.Record.{Record}
use Rattle.track.specs.Tracks.{FileTracked}
use Rattle.track.proofs.Tracking.{planned_accepted, counted_all}
use Rattle.claims_track.specs.Mapped.{BLines, Short}

-- an accepted file has met the grammar, and the other way round
pub met : (file : List ℕ) (f : Flight) → verdict track_seal file None ≡ says f → (m : Meets track_seal file) × (flight_of m ≡ f)
met file f e = let a = (accepted_as track_seal file None f).0 e in (a.0, a.2)

pub meets_so : (file : List ℕ) (m : Meets track_seal file) → verdict track_seal file None ≡ says (flight_of m)
meets_so file m = (accepted_as track_seal file None (flight_of m)).1 (m, tt, refl)

-- ---- what is said, by what the check says

said_counts : (file : List ℕ) (room n : ℕ) → track_said file room ≡ says n → (f : Flight) × (flight_tracked file room ≡ says f) × (count_of family.B f.counts ≡ n)
said_counts file room n e = by (flight_tracked file room) refl e
  where
    by : (s : Said Flight) → flight_tracked file room ≡ s → and_then s (λ f. says (count_of family.B f.counts)) ≡ says n → (f : Flight) × (flight_tracked file room ≡ says f) × (count_of family.B f.counts ≡ n)
    by (says f) g e = (f, g, cc)
    by (refuses k l b) g e = absurd (refuses_says e)

said_room : (file : List ℕ) (room : ℕ) (f : Flight) → verdict track_seal file None ≡ says f → count_of family.B f.counts ≤ room → track_said file room ≡ says (count_of family.B f.counts)
unfolding flight_tracked
said_room file room f e h = rw (e, le-leb (count_of family.B f.counts) room h)

said_short : (file : List ℕ) (room : ℕ) (f : Flight) → verdict track_seal file None ≡ says f → room < count_of family.B f.counts → track_said file room ≡ refuses 18 0 0
unfolding flight_tracked number
said_short file room f e h = rw (e, lt-leb (count_of family.B f.counts) room h)

said_own : (file : List ℕ) (room n l b : ℕ) → verdict track_seal file None ≡ refuses n l b → track_said file room ≡ refuses n l b
unfolding flight_tracked
said_own file room n l b e = rw e

said_refuses : (file : List ℕ) (room n l b : ℕ) → track_said file room ≡ refuses n l b → (verdict track_seal file None ≡ refuses n l b) ⊎ Short file room n l b
unfolding flight_tracked number
said_refuses file room n l b e = by (verdict track_seal file None) refl e
  where
    room_by : (f : Flight) → verdict track_seal file None ≡ says f → (t : Bool) → leb (count_of family.B f.counts) room ≡ t
        → and_then (need t (no reason.NoRoom 0) λ _. says f) (λ f. says (count_of family.B f.counts)) ≡ refuses n l b → Short file room n l b
    room_by f g true t e = absurd (refuses_says (sym e))
    room_by f g false t e =
        let m = met file f g in
        let h : room < count_of family.B f.counts = leb-false _ _ t in
        record { number = cc; line = cc; byte = cc; meets = m.0; less = subst (λ (x : Flight). room < count_of family.B x.counts) (sym m.1) h }

    by : (s : Said Flight) → verdict track_seal file None ≡ s
        → and_then (and_then s λ f. need (leb (count_of family.B f.counts) room) (no reason.NoRoom 0) λ _. says f) (λ f. says (count_of family.B f.counts)) ≡ refuses n l b
        → (verdict track_seal file None ≡ refuses n l b) ⊎ Short file room n l b
    by (says f) g e = inr (room_by f g (leb (count_of family.B f.counts) room) refl e)
    by (refuses k i j) g e = inl (g ∙ again e)
      where
        again : ◌≡◌ {A = Said ℕ} (refuses k i j) (refuses n l b) → ◌≡◌ {A = Said Flight} (refuses k i j) (refuses n l b)
        again e = let p : k ≡ n = cc in let q : i ≡ l = cc in let r : j ≡ b = cc in cc

-- ---- the list afterwards

list_left : (file : List ℕ) (list : List Record) (n l b : ℕ) → flight_tracked file (length list) ≡ refuses n l b → list_after file list ≡ list
list_left file list n l b e = rw e

list_is : (file : List ℕ) (list : List Record) (f : Flight) (n : ℕ) → flight_tracked file (length list) ≡ says f → length (track_of file f.layouts.b) ≡ n
    → list_after file list ≡ track_of file f.layouts.b ++ drop n list
list_is file list f n e m = rw (e, m)

-- ---- of every answer that the contract allows

module _ (file : List ℕ) (list : List Record) (r : Result ℕ Refusal) (after : List Record) (w : FileTracked file list r after) where
  pub told_counts : (n : ℕ) → (result_told r ≡ says n) ↔ ((m : Meets track_seal file) × (n ≡ BLines m) × (n ≤ length list))
  told_counts n = (
    (λ e.
        let c = said_counts file (length list) n (sym w.told ∙ e) in
        let a = planned_accepted file (length list) c.0 c.1 in
        let m = met file c.0 a.0 in
        (m.0, sym c.2 ∙ sym (ap (λ (x : Flight). count_of family.B x.counts) m.1), omega (arith, c.2, a.1))),
    (λ x. w.told ∙ said_room file (length list) (flight_of x.0) (meets_so file x.0) (omega (arith, x.1, x.2)) ∙ ap says (sym x.1)),
  )

  pub told_refuses : (n l b : ℕ) → (result_told r ≡ refuses n l b) ↔ (Refused track_seal file None n l b ⊎ Short file (length list) n l b)
  told_refuses n l b = (
    (λ e. into (said_refuses file (length list) n l b (sym w.told ∙ e))),
    (λ x. w.told ∙ back x),
  )
    where
      into : (verdict track_seal file None ≡ refuses n l b) ⊎ Short file (length list) n l b → Refused track_seal file None n l b ⊎ Short file (length list) n l b
      into (inl e) = inl ((refused_first track_seal file None n l b).0 e)
      into (inr s) = inr s

      back : Refused track_seal file None n l b ⊎ Short file (length list) n l b → track_said file (length list) ≡ refuses n l b
      back (inl x) = said_own file (length list) n l b ((refused_first track_seal file None n l b).1 x)
      back (inr s) = let e = said_short file (length list) (flight_of s.meets) (meets_so file s.meets) s.less in rw (s.number, s.line, s.byte) e

  pub told_never_full : (n l b : ℕ) → result_told r ≡ refuses n l b → n ≡ 15 → ⊥
  told_never_full n l b e z = by (said_refuses file (length list) n l b (sym w.told ∙ e))
    where
      by : (verdict track_seal file None ≡ refuses n l b) ⊎ Short file (length list) n l b → ⊥
      by (inl q) = false_true (sym (check_never_full track_seal file n l b q) ∙ ap (λ (k : ℕ). eqb k 15) z)
      by (inr s) = omega (arith, s.number, z)

  -- a refusal leaves the list
  pub refused_leaves : (n l b : ℕ) → result_told r ≡ refuses n l b → after ≡ list
  refused_leaves n l b e = by (flight_tracked file (length list)) refl (sym w.told ∙ e)
    where
      by : (s : Said Flight) → flight_tracked file (length list) ≡ s → and_then s (λ f. says (count_of family.B f.counts)) ≡ refuses n l b → after ≡ list
      by (says f) g e = absurd (refuses_says (sym e))
      by (refuses k i j) g e = w.records ∙ list_left file list k i j g

  -- else the records stand in front, as many as were counted
  pub record Stands (n : ℕ) : Type 0 where
    pub flight : Flight
    pub accepted : verdict track_seal file None ≡ says flight
    pub count : length (track_of file flight.layouts.b) ≡ n
    pub fits : n ≤ length list
    pub is : after ≡ track_of file flight.layouts.b ++ drop n list

  pub stands : (n : ℕ) → result_told r ≡ says n → Stands n
  stands n e =
      let c = said_counts file (length list) n (sym w.told ∙ e) in
      let a = planned_accepted file (length list) c.0 c.1 in
      let m = counted_all file c.0 a.0 ∙ c.2 in
      record { flight = c.0; accepted = a.0; count = m; fits = omega (arith, c.2, a.1); is = w.records ∙ list_is file list c.0 n c.1 m }
