-- What a summary answers, and the list afterwards, from the promise of the call. Assumes nothing.
use Rattle.rules.specs.declared.Refusal.{Refusal}
use Rattle.std.specs.Prelude.{None, Result}
use Prim.Native.Nat.{ℕ, ◌+◌, ◌/◌, ◌≤◌, ◌<◌}
use mathlib.Core.Bool.{Bool, true, false}
use mathlib.Core.List.{List, []}
use mathlib.Core.Logic.{◌⊎◌, inl, inr, ◌↔◌}
use mathlib.Core.Path.{◌≡◌, refl, sym, ap, subst, ◌∙◌}
use native.Mathlib.Nat.{zero-add}
use native.Mathlib.Omega.{arith}
use borrow.Author.Tests.{le-leb, lt-leb, leb-true, leb-false}
use lib.Dec.{eqb, leb}
use lib.IntN.{ℤ}
use lib.ListN.{length, get_or, take, drop}
use Rattle.rules.specs.Choice.{need, part}
use Rattle.rules.specs.Files.{verdict}
use Rattle.rules.specs.Order.{start}
use Rattle.rules.specs.Refusals.{number, Said, says, refuses, no, and_then, result_told}
use Rattle.rules.specs.Split.{lines_of}
use Rattle.rules.specs.Walk.{set_out}
use Rattle.rules.specs.declared.Flight.{Flight}
use Rattle.rules.specs.declared.Layout.{Layout}
use Rattle.rules.specs.declared.Reason.TheVariants as reason
use Rattle.rules.proofs.Inverse.{refuses_says, false_true, need_inv, then_inv}
use Rattle.rules_laws.proofs.Splitting.{texts_of}
use Rattle.grammar.specs.Faults.{Refused}
use Rattle.grammar.specs.Grammar.{Meets, flight_of, lines_in, beginning}
use Rattle.grammar.proofs.Demands.{refused_first}
use Rattle.grammar.proofs.Reading.{lines_are}
use Rattle.grammar_untabled.proofs.NeverFull.{check_never_full}
use Rattle.track_rules.specs.Track.{zero_record}
use Rattle.track_rules.specs.Track.{track_seal, track_of}
use Rattle.track.proofs.Tracking.{counted_all}
use Rattle.claims_track.specs.Mapped.{BLines, IsRecord}
use Rattle.claims_track.proofs.Answers.{met, meets_so}
use Rattle.claims_track.proofs.Days.{walked_first}
use Rattle.claims_track.proofs.Records.{record_at}
use Rattle.claims_track.proofs.Whole.{all_good}
use Rattle.summary_reckon.specs.Reckoned.{count_said}
use Rattle.summary.specs.Summaries.{FileSummed}
use Rattle.summary_reckon.specs.Summary.{runs_of, run_at, size_of, updated, fixes_in, flight_summed, summary_said, updated_by}
use Rattle.summary.proofs.Summing.{said_accepted}
use Rattle.claims_summary.specs.Overview.{Exceeds, Short, Tells, Summarises}
use Rattle.claims_summary.proofs.Numbers.{tells_told}
use Rattle.claims_summary.proofs.Numbers as numbers

-- ---- what is said of an accepted file, by its number of fixes

said_own : (file : List ℕ) (old room n l b : ℕ) → verdict track_seal file None ≡ refuses n l b → summary_said file old room ≡ refuses n l b
unfolding flight_summed
said_own file old room n l b e = rw e

module _ (count old room : ℕ) where
  count_says : (n : ℕ) → count_said count old room ≡ says n → (n ≡ runs_of count) × (old ≤ count) × (size_of (runs_of count) ≤ room)
  unfolding count_said
  count_says n e = by (leb old count) refl (leb (size_of (runs_of count)) room) refl e
    where
      by : (a : Bool) → leb old count ≡ a → (b : Bool) → leb (size_of (runs_of count)) room ≡ b
          → (need a (no reason.BadValue 0) λ _. need b (no reason.NoRoom 0) λ _. says (runs_of count)) ≡ says n → (n ≡ runs_of count) × (old ≤ count) × (size_of (runs_of count) ≤ room)
      by true p true q e = (cc, leb-true old count p, leb-true (size_of (runs_of count)) room q)
      by true p false q e = absurd (refuses_says e)
      by false p b q e = absurd (refuses_says e)

  count_good : old ≤ count → size_of (runs_of count) ≤ room → count_said count old room ≡ says (runs_of count)
  unfolding count_said
  count_good h g = rw (le-leb old count h, le-leb (size_of (runs_of count)) room g)

  count_over : count < old → count_said count old room ≡ refuses 17 0 0
  unfolding count_said number
  count_over h = rw (lt-leb old count h)

  count_short : old ≤ count → room < size_of (runs_of count) → count_said count old room ≡ refuses 18 0 0
  unfolding count_said number
  count_short h g = rw (le-leb old count h, lt-leb (size_of (runs_of count)) room g)

  -- the two refusals
  abbrev Why : ℕ → ℕ → ℕ → Type 0
  Why n l b = (◌≡◌ {A = Said ℕ} (refuses 17 0 0) (refuses n l b) × (count < old)) ⊎ (◌≡◌ {A = Said ℕ} (refuses 18 0 0) (refuses n l b) × (old ≤ count) × (room < size_of (runs_of count)))

  count_refuses : (n l b : ℕ) → count_said count old room ≡ refuses n l b → Why n l b
  unfolding count_said number
  count_refuses n l b e = by (leb old count) refl (leb (size_of (runs_of count)) room) refl e
    where
      by : (p : Bool) → leb old count ≡ p → (q : Bool) → leb (size_of (runs_of count)) room ≡ q
          → (need p (no reason.BadValue 0) λ _. need q (no reason.NoRoom 0) λ _. says (runs_of count)) ≡ refuses n l b → Why n l b
      by true p true q e = absurd (refuses_says (sym e))
      by true p false q e = inr (e, leb-true old count p, leb-false (size_of (runs_of count)) room q)
      by false p x q e = inl (e, leb-false old count p)

-- what is said of a file's flight is what the check says
pub summed_accepted : (file : List ℕ) (old room : ℕ) (f : Flight) → flight_summed file old room ≡ says f → verdict track_seal file None ≡ says f
unfolding flight_summed
summed_accepted file old room f e =
    let v = then_inv (verdict track_seal file None) f _ e in
    let a = need_inv (leb old (fixes_in v.0)) _ (says f) _ refuses_says v.2 in
    let b = need_inv (leb (size_of (runs_of (fixes_in v.0))) room) _ (says f) _ refuses_says a.1 in
    let z : says v.0 ≡ says f = b.1 in
    v.1 ∙ z

-- ---- of every answer that the contract allows

module _ (file : List ℕ) (old : ℕ) (list : List ℤ) (r : Result ℕ Refusal) (after : List ℤ) (w : FileSummed file old list r after) where
  abbrev room : ℕ
  room = length list

  abbrev Own : ℕ → ℕ → ℕ → Type 0
  Own n l b = verdict track_seal file None ≡ refuses n l b

  -- the file's own refusal, or one of the two
  said_refuses : (n l b : ℕ) → summary_said file old room ≡ refuses n l b → Own n l b ⊎ (Exceeds file old n l b ⊎ Short file old room n l b)
  said_refuses n l b e = by (verdict track_seal file None) refl
    where
      why : (f : Flight) → verdict track_seal file None ≡ says f → Why (fixes_in f) old room n l b → Exceeds file old n l b ⊎ Short file old room n l b
      why f g (inl x) =
          let m = met file f g in
          let z = x.0 in
          inl (record { number = cc; line = cc; byte = cc; meets = m.0; fewer = subst (λ (h : Flight). fixes_in h < old) (sym m.1) x.1 })
      why f g (inr x) =
          let m = met file f g in
          let z = x.0 in
          inr (record {
            number = cc;
            line = cc;
            byte = cc;
            meets = m.0;
            enough = subst (λ (h : Flight). old ≤ fixes_in h) (sym m.1) x.1;
            less = subst (λ (h : Flight). room < size_of (runs_of (fixes_in h))) (sym m.1) x.2;
          })

      by : (s : Said Flight) → verdict track_seal file None ≡ s → Own n l b ⊎ (Exceeds file old n l b ⊎ Short file old room n l b)
      by (says f) g = inr (why f g (count_refuses (fixes_in f) old room n l b (sym (said_accepted file old room f g) ∙ e)))
      by (refuses k i j) g = inl (g ∙ again (sym (said_own file old room k i j g) ∙ e))
        where
          again : ◌≡◌ {A = Said ℕ} (refuses k i j) (refuses n l b) → ◌≡◌ {A = Said Flight} (refuses k i j) (refuses n l b)
          again e = let p : k ≡ n = cc in let q : i ≡ l = cc in let r : j ≡ b = cc in cc

  -- an accepted file, its fixes enough and its list long enough
  pub record Good (n : ℕ) : Type 0 where
    pub flight : Flight
    pub accepted : verdict track_seal file None ≡ says flight
    pub runs : n ≡ runs_of (fixes_in flight)
    pub enough : old ≤ fixes_in flight
    pub room : size_of (runs_of (fixes_in flight)) ≤ length list

  pub good : (n : ℕ) → result_told r ≡ says n → Good n
  good n e = by (verdict track_seal file None) refl
    where
      by : (s : Said Flight) → verdict track_seal file None ≡ s → Good n
      by (says f) g =
          let x = count_says (fixes_in f) old room n (sym (said_accepted file old room f g) ∙ sym w.told ∙ e) in
          record { flight = f; accepted = g; runs = x.0; enough = x.1; room = x.2 }
      by (refuses k i j) g = absurd (refuses_says (sym (said_own file old room k i j g) ∙ sym w.told ∙ e))

  pub told_runs_lem : (n : ℕ) → (result_told r ≡ says n) ↔ ((m : Meets track_seal file) × (n ≡ runs_of (BLines m)) × (old ≤ BLines m) × (size_of n ≤ length list))
  told_runs_lem n = (
    (λ e.
        let g = good n e in
        let m = met file g.flight g.accepted in
        let c : fixes_in g.flight ≡ BLines m.0 = ap fixes_in (sym m.1) in
        (m.0, g.runs ∙ ap runs_of c, omega (arith, c, g.enough), rw g.runs g.room)),
    (λ x.
        let f = flight_of x.0 in
        w.told ∙ said_accepted file old room f (meets_so file x.0) ∙ count_good (fixes_in f) old room x.2 (rw x.1 at x.3) ∙ ap says (sym x.1)),
  )

  pub told_refuses : (n l b : ℕ) → (result_told r ≡ refuses n l b) ↔ (Refused track_seal file None n l b ⊎ (Exceeds file old n l b ⊎ Short file old room n l b))
  told_refuses n l b = ((λ e. into (said_refuses n l b (sym w.told ∙ e))), (λ x. w.told ∙ back x))
    where
      into : Own n l b ⊎ (Exceeds file old n l b ⊎ Short file old room n l b) → Refused track_seal file None n l b ⊎ (Exceeds file old n l b ⊎ Short file old room n l b)
      into (inl e) = inl ((refused_first track_seal file None n l b).0 e)
      into (inr s) = inr s

      back : Refused track_seal file None n l b ⊎ (Exceeds file old n l b ⊎ Short file old room n l b) → summary_said file old room ≡ refuses n l b
      back (inl x) = said_own file old room n l b ((refused_first track_seal file None n l b).1 x)
      back (inr (inl x)) =
          let f = flight_of x.meets in
          rw (x.number, x.line, x.byte) (said_accepted file old room f (meets_so file x.meets) ∙ count_over (fixes_in f) old room x.fewer)
      back (inr (inr x)) =
          let f = flight_of x.meets in
          rw (x.number, x.line, x.byte) (said_accepted file old room f (meets_so file x.meets) ∙ count_short (fixes_in f) old room x.enough x.less)

  pub told_never_full : (n l b : ℕ) → result_told r ≡ refuses n l b → n ≡ 15 → ⊥
  told_never_full n l b e z = by (said_refuses n l b (sym w.told ∙ e))
    where
      by : Own n l b ⊎ (Exceeds file old n l b ⊎ Short file old room n l b) → ⊥
      by (inl q) = false_true (sym (check_never_full track_seal file n l b q) ∙ ap (λ (k : ℕ). eqb k 15) z)
      by (inr (inl x)) = omega (arith, x.number, z)
      by (inr (inr x)) = omega (arith, x.number, z)

  -- a refusal leaves the list
  pub refused_leaves : (n l b : ℕ) → result_told r ≡ refuses n l b → after ≡ list
  refused_leaves n l b e = by (flight_summed file old room) refl (sym w.told ∙ e)
    where
      by : (s : Said Flight) → flight_summed file old room ≡ s → and_then s (λ f. says (runs_of (fixes_in f))) ≡ refuses n l b → after ≡ list
      by (says f) g e = absurd (refuses_says (sym e))
      by (refuses k i j) g e = w.numbers ∙ ap (updated_by file old list) g

  -- else it is brought up to date with the file's fixes
  pub stands : (n : ℕ) (e : result_told r ≡ says n) → after ≡ updated old (track_of file (good n e).flight.layouts.b) list
  unfolding flight_summed
  stands n e =
      let g = good n e in
      let s : flight_summed file old room ≡ says g.flight = rw (g.accepted, le-leb old (fixes_in g.flight) g.enough, le-leb (size_of (runs_of (fixes_in g.flight))) room g.room) in
      w.numbers ∙ ap (updated_by file old list) s

  pub summarised : (n : ℕ) → result_told r ≡ says n → (m : Meets track_seal file) → Summarises m old n list after
  unfolding beginning
  summarised n e m =
      let g = good n e in
      let f = g.flight in
      let rs = track_of file f.layouts.b in
      let c : length rs ≡ fixes_in f = counted_all file f g.accepted in
      let same : flight_of m ≡ f = (let z : says (flight_of m) ≡ says f = sym (meets_so file m) ∙ g.accepted in cc) in
      let l : f.layouts.b ≡ m.layouts.b = ap (λ (x : Flight). x.layouts.b) (sym same) in
      let k : n ≡ runs_of (length rs) = g.runs ∙ ap runs_of (sym c) in
      let h : old ≤ length rs = omega (arith, c, g.enough) in
      let fits : size_of (runs_of (length rs)) ≤ length list = omega (arith, c, g.room) in
      let is = stands n e in
      record {
        fixes = rs;
        many = c ∙ ap fixes_in (sym same);
        each = λ i less.
            let x : IsRecord f.layouts.b (texts_of (lines_of file)) (0 + i) (get_or rs i zero_record) =
            record_at track_seal f.layouts f (lines_of file) [] set_out start (all_good file f g.accepted) walked_first i less in
            let y : IsRecord f.layouts.b (texts_of (lines_of file)) i (get_or rs i zero_record) = rw zero-add at x in
            subst (λ (q : Layout). IsRecord q (lines_in m.parts) i (get_or rs i zero_record)) l (subst (λ (ls : List (List ℕ)). IsRecord f.layouts.b ls i (get_or rs i zero_record)) (lines_are file m) y);
        whole = subst (Tells rs) (sym (ap (take 12) is ∙ numbers.front old rs list h fits)) (tells_told rs);
        runs = λ j low high. subst (Tells (run_at j rs)) (sym (ap (part (size_of j) (size_of (j + 1))) is ∙ numbers.run_is old rs list h fits j low (rw k at high))) (tells_told (run_at j rs));
        earlier = ap (part 12 (size_of (old / 256))) is ∙ numbers.stays old rs list h fits;
        beyond = rw k (ap (drop (size_of (runs_of (length rs)))) is ∙ numbers.beyond old rs list h fits);
        long = ap length is ∙ numbers.long old rs list h fits;
      }
