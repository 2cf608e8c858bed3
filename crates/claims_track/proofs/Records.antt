-- Record n of a track is the nth B line's. Assumes nothing.
use Rattle.std.specs.Prelude.{None, Some}
use Prim.Native.Nat.{ℕ, zero, suc, ◌+◌, ◌<◌}
use Prim.Native.Char.{code}
use mathlib.Core.Bool.{Bool, true, false, cond}
use mathlib.Core.List.{List, [], ◌∷◌, ◌++◌, append_assoc}
use mathlib.Core.Path.{◌≡◌, refl, ap, ◌∙◌}
use native.Mathlib.Omega.{arith}
use borrow.Author.Tests.{eqb-true, eqb-false}
use lib.Dec.{eqb}
use lib.ListN.{length, get_or, length-append}
use Rattle.rules.specs.Choice.{on, Each}
use Rattle.rules.specs.Fields.{time_at}
use Rattle.rules.specs.Files.{run}
use Rattle.rules.specs.Order.{judge}
use Rattle.rules.specs.Reads.{fix_said}
use Rattle.rules.specs.Refusals.{says}
use Rattle.rules.specs.Roles.{is_timed}
use Rattle.rules.specs.Split.{Lines, end, broken, line}
use Rattle.rules.specs.Walk.{Walk, walked}
use Rattle.rules.specs.declared.Family.TheVariants as family
use Rattle.rules.specs.declared.Fix.{Fix}
use Rattle.rules.specs.declared.Flight.{Flight}
use Rattle.rules.specs.declared.Layout.{Layout}
use Rattle.rules.specs.declared.Layouts.{Layouts}
use Rattle.rules.specs.declared.Role.{Role}
use Rattle.rules.specs.declared.Seal.{Seal}
use Rattle.rules.specs.declared.State.{State}
use Rattle.rules.proofs.Inverse.{false_true}
use Rattle.rules_laws.proofs.Passing.{role_in, Onward, Leaves, judged, ran}
use Rattle.rules_laws.proofs.Passing as passes
use Rattle.rules_laws.proofs.Splitting.{texts_of}
use Rattle.rules_laws.proofs.Walking.{columned_time, event_time, satellites_time}
use Rattle.grammar.specs.Grammar.{IsBLine, beginning}
use Rattle.grammar.specs.Readings.{ReadsLine}
use Rattle.grammar.proofs.EachLine.{fix_alone}
use Rattle.grammar.proofs.Standing.{beginning_next}
use Rattle.track_rules.specs.Track.{zero_record}
use Rattle.track_rules.specs.Track.{records_of, track_from}
use Rattle.track_rules.specs.declared.Record.{Record}
use Rattle.track.proofs.Stepping.{other_said}
use Rattle.claims_track.specs.Mapped.{IsRecord}
use Rattle.claims_track.proofs.Days.{InTime, Walked, walked_on}

-- ---- a line that passes has its time, which does not fall but to the next day

left_timed : (l : List ℕ) (m : State) {r : Role} {after : State} → Leaves l m r after → is_timed r ≡ true → (t : ℕ) × (time_at l 1 ≡ Some t) × Onward m.clock t
left_timed l m (passes.opens e) n = absurd (false_true n)
left_timed l m (passes.date d k e) n = absurd (false_true n)
left_timed l m (passes.header k e) n = absurd (false_true n)
left_timed l m (passes.layout f i e) n = absurd (false_true n)
left_timed l m (passes.columned f t e o) n = (t, columned_time f _ t l e, o)
left_timed l m (passes.head h k e) n = absurd (false_true n)
left_timed l m (passes.point p k e) n = absurd (false_true n)
left_timed l m (passes.event t e o) n = (t, event_time t l e, o)
left_timed l m (passes.satellites t e o) n = (t, satellites_time t l e, o)
left_timed l m (passes.differential e) n = absurd (false_true n)
left_timed l m (passes.seals e) n = absurd (false_true n)
left_timed l m (passes.remark e) n = absurd (false_true n)
left_timed l m (passes.other e) n = absurd (false_true n)

pub passed_timed : (l : List ℕ) (st after : State) → judge l st ≡ says after → is_timed (role_in l) ≡ true → (t : ℕ) × (time_at l 1 ≡ Some t) × Onward st.clock t
passed_timed l st after e n = left_timed l _ (judged l st after e).left n

pub passed_in_time : (l : List ℕ) (st after : State) → judge l st ≡ says after → InTime l
passed_in_time l st after e n = let t = passed_timed l st after e n in (t.0, t.1)

-- ---- the record at a place

module _ (seal : Seal) (layouts : Layouts) (f : Flight) where
  abbrev layout : Layout
  layout = layouts.b

  -- lines that pass and read
  pub record Good (st : State) (k : Lines) : Type 0 where
    pub runs : run seal None st k ≡ says f
    pub reads : Each (ReadsLine layouts) (texts_of k)

  pub record Next (st : State) (t : List ℕ) (ls : Lines) : Type 0 where
    pub after : State
    pub judges : judge t st ≡ says after
    pub good : Good after ls
    pub fix : get_or t 0 0 ≡ code "B" → (g : Fix) × IsBLine layout g t × (fix_said t layout ≡ says g)

  pub next : (st : State) (t : List ℕ) (ls : Lines) → Good st (line t ls) → Next st t ls
  next st t ls w =
      let g = ran seal None st t ls f w.runs in
      record {
        after = g.after;
        judges = g.judges;
        good = record { runs = g.runs; reads = w.reads.1 };
        fix = λ e. let x = w.reads.0.columned family.B e in (x.fix, x.is, fix_alone t layout _ x.reads);
      }

  abbrev records : Walk → Lines → List Record
  records w k = track_from layout w k

  abbrev At : List (List ℕ) → Walk → Lines → ℕ → Type 0
  At before w k i = IsRecord layout (before ++ texts_of k) (beginning (code "B") before + i) (get_or (records w k) i zero_record)

  abbrev Found : List (List ℕ) → List (List ℕ) → List Record → ℕ → Type 0
  Found before rest rs i = IsRecord layout (before ++ rest) (beginning (code "B") before + i) (get_or rs i zero_record)

  -- each place of the lines that are left, behind those before
  pub record_at : (k : Lines) (before : List (List ℕ)) (w : Walk) (st : State) → Good st k → Walked before w → (i : ℕ) → i < length (records w k) → At before w k i
  unfolding track_from on
  record_at end before w st g h i less = absurd (omega arith)
  record_at (broken n) before w st g h i less = absurd (omega arith)
  record_at (line t ls) before w st g h i less =
      let x = next st t ls g in
      let h' = walked_on before w t h (passed_in_time t st x.after x.judges) in
      by (eqb (get_or t 0 0) (code "B")) refl x h' (λ j. record_at ls (before ++ (t ∷ [])) (walked t w) x.after x.good h' j) i less
    where
      same : (before ++ (t ∷ [])) ++ texts_of ls ≡ before ++ (t ∷ texts_of ls)
      same = append_assoc before (t ∷ []) (texts_of ls)

      by : (b : Bool) → eqb (get_or t 0 0) (code "B") ≡ b → Next st t ls → Walked (before ++ (t ∷ [])) (walked t w)
          → ((j : ℕ) → j < length (records (walked t w) ls) → At (before ++ (t ∷ [])) (walked t w) ls j)
          → (i : ℕ) → i < length (records_of (walked t w) (fix_said t layout) ++ records (walked t w) ls) → Found before (t ∷ texts_of ls) (records_of (walked t w) (fix_said t layout) ++ records (walked t w) ls) i
      by false e x h' later i less =
          let d = other_said layout t (eqb-false (get_or t 0 0) (code "B") e) (walked t w) in
          let n : beginning (code "B") (before ++ (t ∷ [])) ≡ beginning (code "B") before = beginning_next t (code "B") before ∙ rw e (omega arith) in
          rw d (rw (same, n) at (later i (rw d at less)))
      by true e x h' later zero less =
          let g = x.fix (eqb-true (get_or t 0 0) (code "B") e) in
          rw g.2 (record {
            before = before;
            line = t;
            after = texts_of ls;
            order = refl;
            nth = omega arith;
            number = h'.lines ∙ length-append before (t ∷ []);
            times = h'.times;
            timed = h'.timed;
            day = h'.day;
            is = g.1;
            reads = g.2;
          })
      by true e x h' later (suc j) less =
          let g = x.fix (eqb-true (get_or t 0 0) (code "B") e) in
          let c : beginning (code "B") (before ++ (t ∷ [])) ≡ beginning (code "B") before + 1 = beginning_next t (code "B") before ∙ ap (λ (x : Bool). beginning (code "B") before + cond x 1 0) e in
          let n : beginning (code "B") (before ++ (t ∷ [])) + j ≡ beginning (code "B") before + suc j = omega (arith, c) in
          let m = rw g.2 at less in
          rw g.2 (rw (same, n) at (later j (omega (arith, m))))
