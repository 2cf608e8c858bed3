-- An update of a flight whose earlier runs are in the list already gives the list that is made afresh. Assumes nothing.
use Rattle.rules_only.proofs.Told.{result_one}
use Rattle.rules.specs.declared.Refusal.{Refusal}
use Rattle.std.specs.Prelude.{None, Result}
use Prim.Native.Nat.{ℕ, zero, suc, ◌+◌, ◌*◌, ◌-◌, ◌/◌, ◌≤◌}
use mathlib.Core.List.{List, [], ◌++◌, append_assoc}
use mathlib.Core.Path.{◌≡◌, refl, sym, ap, subst, ◌∙◌}
use native.Mathlib.Omega.{arith}
use borrow.Author.Tests.{le-leb}
use lib.IntN.{ℤ}
use lib.ListN.{length, take, drop, length-append, length-drop}
use lib.Seq.{take_at, drop_at, take-append-le, drop-append-le}
use Rattle.rules.specs.Choice.{part}
use Rattle.rules.specs.Files.{verdict}
use Rattle.rules.specs.Refusals.{Said, says, refuses, and_then, result_told}
use Rattle.rules.specs.Split.{lines_of}
use Rattle.rules.specs.declared.Flight.{Flight}
use Rattle.rules_laws.proofs.Splitting.{texts_of}
use Rattle.grammar.specs.Grammar.{Meets, flight_of, lines_in}
use Rattle.grammar.proofs.Reading.{lines_are}
use Rattle.track_rules.specs.Track.{track_seal, track_of}
use Rattle.track_rules.specs.declared.Record.{Record}
use Rattle.track.proofs.Tracking.{counted_all}
use Rattle.claims_track.specs.Mapped.{BLines}
use Rattle.claims_track.proofs.Answers.{meets_so}
use Rattle.summary.specs.Summaries.{FileSummed}
use Rattle.summary_reckon.specs.Summary.{told, runs_of, told_runs, size_of, updated, fixes_in, flight_summed, updated_by}
use Rattle.summary.proofs.Filling.{length_told_lem, length_runs}
use Rattle.claims_summary.specs.Overview.{Grown, Kept}
use Rattle.claims_summary.proofs.Answers.{summed_accepted}
use Rattle.claims_summary.proofs.Answers as answers
use Rattle.claims_summary.proofs.Growing.{Longer, longer}
use Rattle.claims_summary.proofs.Numbers.{runs_split}

-- runs that are full in the older flight
runs_older : (n : ℕ) (rs more : List Record) → 256 * n ≤ length rs → told_runs n (rs ++ more) ≡ told_runs n rs
unfolding told_runs
runs_older zero rs more h = refl
runs_older (suc n) rs more h =
    let a : take 256 (rs ++ more) ≡ take 256 rs = take-append-le 256 rs more (omega arith) in
    let b : drop 256 (rs ++ more) ≡ drop 256 rs ++ more = drop-append-le 256 rs more (omega arith) in
    rw (a, b) (ap (λ (l : List ℤ). told (take 256 rs) ++ l) (runs_older n (drop 256 rs) more (omega (arith, length-drop 256 rs))))

-- the earlier runs of a list that was made afresh
pub made_afresh : (rs : List Record) (lent : List ℤ) (k : ℕ) → k ≤ runs_of (length rs) → part 12 (size_of k) (updated 0 rs lent) ≡ told_runs k rs
unfolding updated
made_afresh rs lent k h =
    let n = runs_of (length rs) in
    let rest = drop (size_of n) lent in
    let y : n - 0 ≡ k + (n - k) = omega arith in
    let x : size_of k - 12 ≡ 12 * k = omega arith in
    ap (take (size_of k - 12)) (drop_at (told rs) (told_runs (n - 0) rs ++ rest) 12 (length_told_lem rs))
    ∙ ap (λ (j : ℕ). take j (told_runs (n - 0) rs ++ rest)) x
    ∙ ap (λ (j : ℕ). take (12 * k) (told_runs j rs ++ rest)) y
    ∙ ap (λ (l : List ℤ). take (12 * k) (l ++ rest)) (runs_split k (n - k) rs)
    ∙ ap (take (12 * k)) (append_assoc (told_runs k rs) (told_runs (n - k) (drop (256 * k) rs)) rest)
    ∙ take_at (told_runs k rs) (told_runs (n - k) (drop (256 * k) rs) ++ rest) (12 * k) (length_runs k rs)

pub updated_afresh : (rs more : List Record) (list : List ℤ) → part 12 (size_of (length rs / 256)) list ≡ told_runs (length rs / 256) rs → updated (length rs) (rs ++ more) list ≡ updated 0 (rs ++ more) list
unfolding updated
updated_afresh rs more list e =
    let all = rs ++ more in
    let k = length rs / 256 in
    let n = runs_of (length all) in
    let rest = drop (size_of n) list in
    let later = told_runs (n - k) (drop (256 * k) all) in
    let y : k + (n - k) ≡ n - 0 = omega (arith, length-append rs more) in
    ap (λ (l : List ℤ). told all ++ (l ++ (later ++ rest))) (e ∙ sym (runs_older k rs more (omega arith)))
    ∙ ap (λ (l : List ℤ). told all ++ l) (sym (append_assoc (told_runs k all) later rest))
    ∙ ap (λ (l : List ℤ). told all ++ (l ++ rest)) (sym (runs_split k (n - k) all))
    ∙ ap (λ (j : ℕ). told all ++ (told_runs j all ++ rest)) y

-- ---- of files

module _ (older newer : List ℕ) (m : Meets track_seal older) (k : Meets track_seal newer) (grown : Grown (lines_in m.parts) (lines_in k.parts)) (list : List ℤ) (kept : Kept older (BLines m) list) where
  abbrev f : Flight
  f = flight_of m

  abbrev g : Flight
  g = flight_of k

  accepted : verdict track_seal older None ≡ says f
  accepted = meets_so older m

  accepted_now : verdict track_seal newer None ≡ says g
  accepted_now = meets_so newer k

  abbrev rs : List Record
  rs = track_of older f.layouts.b

  many : length rs ≡ BLines m
  many = counted_all older f accepted

  there : Longer older newer f g
  there = longer track_seal older newer f g accepted accepted_now (subst (λ (ls : List (List ℕ)). Grown (texts_of (lines_of older)) ls) (sym (lines_are newer k)) (subst (λ (ls : List (List ℕ)). Grown ls (lines_in k.parts)) (sym (lines_are older m)) grown))

  -- no fewer fixes than before
  enough : BLines m ≤ fixes_in g
  enough = omega (arith, many, counted_all newer g accepted_now, ap length there.is, length-append rs there.others)

  -- the earlier runs that were lent are those of the older file
  earlier_are : part 12 (size_of (length rs / 256)) list ≡ told_runs (length rs / 256) rs
  earlier_are =
      let x = kept.afresh in
      let q = answers.good older 0 kept.lent kept.answer kept.made x kept.runs kept.accepted in
      let same : q.flight ≡ f = (let z : says q.flight ≡ says f = sym q.accepted ∙ accepted in cc) in
      let is : kept.made ≡ updated 0 rs kept.lent = answers.stands older 0 kept.lent kept.answer kept.made x kept.runs kept.accepted ∙ ap (λ (h : Flight). updated 0 (track_of older h.layouts.b) kept.lent) same in
      ap (λ (n : ℕ). part 12 (size_of (n / 256)) list) many
      ∙ kept.same
      ∙ ap (λ (n : ℕ). part 12 (size_of (n / 256)) kept.made) (sym many)
      ∙ ap (part 12 (size_of (length rs / 256))) is
      ∙ made_afresh rs kept.lent (length rs / 256) (omega arith)

  same_list : updated (BLines m) (track_of newer g.layouts.b) list ≡ updated 0 (track_of newer g.layouts.b) list
  same_list =
      ap (λ (l : List Record). updated (BLines m) l list) there.is
      ∙ ap (λ (n : ℕ). updated n (rs ++ there.others) list) (sym many)
      ∙ updated_afresh rs there.others list earlier_are
      ∙ ap (λ (l : List Record). updated 0 l list) (sym there.is)

  -- what is said of the newer file is the same for both old numbers
  same_said : flight_summed newer (BLines m) (length list) ≡ flight_summed newer 0 (length list)
  unfolding flight_summed
  same_said = rw (accepted_now, le-leb (BLines m) (fixes_in g) enough, le-leb 0 (fixes_in g) (omega arith))

  both : (s : Said Flight) → flight_summed newer 0 (length list) ≡ s → updated_by newer (BLines m) list s ≡ updated_by newer 0 list s
  both (says h) e =
      let x = summed_accepted newer 0 (length list) h e in
      let same : h ≡ g = (let z : says h ≡ says g = sym x ∙ accepted_now in cc) in
      rw same same_list
  both (refuses n l b) e = refl

  pub updated_is_fresh : (r : Result ℕ Refusal) (after : List ℤ) → FileSummed newer (BLines m) list r after → (r' : Result ℕ Refusal) (after' : List ℤ) → FileSummed newer 0 list r' after' → (r ≡ r') × (after ≡ after')
  updated_is_fresh r after w r' after' w' =
      let told : result_told r ≡ result_told r' = w.told ∙ ap (λ (s : Said Flight). and_then s λ h. says (runs_of (fixes_in h))) same_said ∙ sym w'.told in (
        result_one r r' told,
        w.numbers ∙ ap (updated_by newer (BLines m) list) same_said ∙ both (flight_summed newer 0 (length list)) refl ∙ sym w'.numbers,
      )
