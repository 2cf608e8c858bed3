-- What a merge answers, in the grammar's words: the two copies and the file that they make, or the first refusal and whose it is. Assumes nothing.
use Rattle.std.specs.Prelude.{None}
use Prim.Native.Nat.{ℕ, ◌≤◌, ◌<◌}
use mathlib.Core.Bool.{Bool, true, false}
use mathlib.Core.List.{List, ◌++◌}
use mathlib.Core.Logic.{◌↔◌}
use mathlib.Core.Path.{◌≡◌, refl, sym, ◌∙◌, ap, ap₂, subst}
use native.Mathlib.Omega.{arith}
use borrow.Author.Tests.{le-leb, lt-leb, leb-true, leb-false}
use lib.Dec.{leb}
use lib.ListN.{length, drop}
use Rattle.rules.specs.Choice.{need}
use Rattle.rules.specs.Refusals.{number, Said, says, refuses}
use Rattle.rules.specs.Split.{lines_of}
use Rattle.rules.specs.Files.{verdict}
use Rattle.rules.specs.declared.Flight.{Flight}
use Rattle.rules.specs.declared.Reason.TheVariants.{TooLong, NoRoom, NotSame}
use Rattle.rules.specs.declared.Seal.TheVariants as seal
use Rattle.rules.proofs.Inverse.{false_true}
use Rattle.notes_sorted.specs.Sorted.{Together}
use Rattle.notes_sorted.proofs.Pairs.{together_once}
use Rattle.notes_rules.specs.Notes.{not_after, joined, common_part, notes_in, is_same}
use Rattle.notes_rules.specs.Merging.{Merged, merged, of_first, of_second, of_neither, accept_first, accept_second, merged_file, merge_said, out_merged}
use Rattle.notes_rules.proofs.Texts.{texts}
use Rattle.notes_common.proofs.Common.{same_is, is_same_lem}
use Rattle.notes_merge.specs.Merge.{StrictlyAccepted, merge_told, FilesMerged}
use Rattle.notes_merge.specs.declared.Brought.{Brought}
use Rattle.notes_merge.specs.declared.Brought.TheVariants as brought
use Rattle.notes_merge.proofs.Only.{merge_one}
use Rattle.notes_merge.proofs.Whole.{not_refused}
use Rattle.grammar.specs.Grammar.{join_lines, Meets, flight_of}
use Rattle.grammar.proofs.Accepted.{accepted_as}
use Rattle.grammar.proofs.Demands.{refused_first}
use Rattle.claims_merge.specs.Evening.{sealed_bytes, IsMerge, Merges, MergeRefused, first_file, second_file, not_same, too_long, no_room}
use Rattle.claims_merge.proofs.Copies.{join_is, sealed_is, notes_is}
use Rattle.claims_merge.proofs.Making.{accepted_meets}
use Rattle.claims_merge.proofs.NotSame.{neither_accepted}
use Rattle.claims_merge.proofs.Turned.{Rest, said_rest}

meets_accepted : (file : List ℕ) → Meets seal.Strict file → StrictlyAccepted file
meets_accepted file m = (flight_of m, (accepted_as seal.Strict file None (flight_of m)).1 (m, refl, refl))

-- what is said where both are accepted is said of neither
abbrev OfNone : Merged → Type 0
OfNone (merged n) = Unit {0}
OfNone (of_first n l b) = ⊥
OfNone (of_second n l b) = ⊥
OfNone (of_neither n l b) = Unit {0}

rest_none : (x y z : Bool) (n : ℕ) → OfNone (need x (of_neither (number NotSame) 0 0) λ _. need y (of_neither (number TooLong) 0 0) λ _. need z (of_neither (number NoRoom) 0 0) λ _. merged n)
rest_none false y z n = tt
rest_none true false z n = tt
rest_none true true false n = tt
rest_none true true true n = tt

-- ---- the file that two copies make

module _ (first second : List ℕ) (notes : List (List ℕ)) (together : Together not_after (notes_in (lines_of first)) (notes_in (lines_of second)) notes) where
  abbrev one : List ℕ
  one = common_part (lines_of first)

  abbrev two : List ℕ
  two = common_part (lines_of second)

  abbrev result : List ℕ
  result = merged_file first notes

  is_merge : StrictlyAccepted first → StrictlyAccepted second → one ≡ two → IsMerge first second result
  is_merge a b s =
      let m = (accepted_meets first a).0 in
      let k = (accepted_meets second b).0 in
      record {
        one = m;
        two = k;
        same = sym (sealed_is first m) ∙ s ∙ sealed_is second k;
        notes = notes;
        together = rw (notes_is first m, notes_is second k) at together;
        is = ap₂ (λ (x y : List ℕ). x ++ y) (sealed_is first m) (sym (join_is notes));
      }

  merge_is : (file : List ℕ) → IsMerge first second file → file ≡ result
  merge_is file w =
      let t : Together not_after w.one.parts.remarks w.two.parts.remarks notes = rw (notes_is first w.one, notes_is second w.two) at together in
      let e = together_once texts w.one.parts.remarks w.two.parts.remarks w.notes notes w.together t in
      w.is ∙ ap₂ (λ (x y : List ℕ). x ++ y) (sym (sealed_is first w.one)) (join_is w.notes ∙ ap joined e)

  -- where both are accepted, and have the same bytes up to the end of the last G line
  module _ (room : ℕ) (file : List ℕ) (w : IsMerge first second file) where
    same_said : merge_said first second result room ≡ Rest one one file room
    same_said =
        let s : two ≡ one = sealed_is second w.two ∙ sym w.same ∙ sym (sealed_is first w.one) in
        said_rest first second (meets_accepted first w.one) (meets_accepted second w.two) notes room
        ∙ ap₂ (λ (x y : List ℕ). Rest one x y room) s (sym (merge_is file w))

    said_whole : length file ≤ 16777216 → length file ≤ room → merge_said first second result room ≡ merged (length file)
    said_whole g h = same_said ∙ rw (is_same_lem one, le-leb (length file) 16777216 g, le-leb (length file) room h)

    said_long : 16777216 < length file → merge_said first second result room ≡ of_neither 2 0 0
    unfolding number
    said_long g = same_said ∙ rw (is_same_lem one, lt-leb (length file) 16777216 g)

    said_full : length file ≤ 16777216 → room < length file → merge_said first second result room ≡ of_neither 18 0 0
    unfolding number
    said_full g h = same_said ∙ rw (is_same_lem one, le-leb (length file) 16777216 g, lt-leb (length file) room h)

  -- ---- each refusal is said

  said_refused : (room : ℕ) (m : Merged) → MergeRefused first second room m → merge_said first second result room ≡ m
  unfolding merge_said number
  said_refused room (merged _) x'' = elim x'' [ ]
  said_refused room (of_first n l b) (first_file x) = rw ((refused_first seal.Strict first None n l b).1 x)
  said_refused room (of_second n l b) (second_file k x) = rw ((meets_accepted first k).1, (refused_first seal.Strict second None n l b).1 x)
  said_refused room (of_neither _ _ _) (not_same m k d) = said_rest first second (meets_accepted first m) (meets_accepted second k) notes room ∙ go (is_same one two) refl
    where
      go : (t : Bool) → is_same one two ≡ t → Rest one two result room ≡ of_neither 26 0 0
      go true e = absurd (d (sym (sealed_is first m) ∙ same_is one two e ∙ sealed_is second k))
      go false e = rw e
  said_refused room (of_neither _ _ _) (too_long file w g) = said_long room file w g
  said_refused room (of_neither _ _ _) (no_room file w g h) = said_full room file w g h

  -- ---- and nothing else is

  rest_means : (room n l b : ℕ) (a : StrictlyAccepted first) (c : StrictlyAccepted second) → Rest one two result room ≡ of_neither n l b → MergeRefused first second room (of_neither n l b)
  unfolding number
  rest_means room n l b a c = same (is_same one two) refl
    where
      fitting : IsMerge first second result → (s t : Bool) → leb (length result) 16777216 ≡ s → leb (length result) room ≡ t
          → (need s (of_neither 2 0 0) λ _. need t (of_neither 18 0 0) λ _. merged (length result)) ≡ of_neither n l b → MergeRefused first second room (of_neither n l b)
      fitting w false t p q e = subst (MergeRefused first second room) e (too_long result w (leb-false _ _ p))
      fitting w true false p q e = subst (MergeRefused first second room) e (no_room result w (leb-true _ _ p) (leb-false _ _ q))
      fitting w true true p q e = let z : ◌≡◌ {A = ℕ} 0 1 = cc in absurd (omega arith)

      same : (t : Bool) → is_same one two ≡ t
          → (need t (of_neither 26 0 0) λ _. need (leb (length result) 16777216) (of_neither 2 0 0) λ _. need (leb (length result) room) (of_neither 18 0 0) λ _. merged (length result)) ≡ of_neither n l b → MergeRefused first second room (of_neither n l b)
      same false p e =
          let m = (accepted_meets first a).0 in
          let k = (accepted_meets second c).0 in
          let d : sealed_bytes m ≡ sealed_bytes k → ⊥ = λ q. false_true (sym p ∙ ap (is_same one) (sym (sealed_is first m ∙ q ∙ sym (sealed_is second k))) ∙ is_same_lem one) in
          subst (MergeRefused first second room) e (not_same m k d)
      same true p e = fitting (is_merge a c (same_is one two p)) (leb (length result) 16777216) (leb (length result) room) refl refl e

  said_first : (room n l b : ℕ) → merge_said first second result room ≡ of_first n l b → MergeRefused first second room (of_first n l b)
  unfolding merge_said
  said_first room n l b = by (verdict seal.Strict first None) (verdict seal.Strict second None) refl
    where
      by : (s t : Said Flight) → verdict seal.Strict first None ≡ s → (accept_first s λ _. accept_second t λ _. Rest one two result room) ≡ of_first n l b → MergeRefused first second room (of_first n l b)
      by (refuses k i j) t p e = subst (MergeRefused first second room) e (first_file ((refused_first seal.Strict first None k i j).0 p))
      by (says f) (refuses k i j) p e = let z : ◌≡◌ {A = ℕ} 0 1 = cc in absurd (omega arith)
      by (says f) (says g) p e = absurd (subst OfNone e (rest_none (is_same one two) (leb (length result) 16777216) (leb (length result) room) (length result)))

  said_second : (room n l b : ℕ) → merge_said first second result room ≡ of_second n l b → MergeRefused first second room (of_second n l b)
  unfolding merge_said
  said_second room n l b = by (verdict seal.Strict first None) (verdict seal.Strict second None) refl refl
    where
      by : (s t : Said Flight) → verdict seal.Strict first None ≡ s → verdict seal.Strict second None ≡ t → (accept_first s λ _. accept_second t λ _. Rest one two result room) ≡ of_second n l b
          → MergeRefused first second room (of_second n l b)
      by (refuses k i j) t p q e = let z : ◌≡◌ {A = ℕ} 0 1 = cc in absurd (omega arith)
      by (says f) (refuses k i j) p q e = subst (MergeRefused first second room) e (second_file (accepted_meets first (f, p)).0 ((refused_first seal.Strict second None k i j).0 q))
      by (says f) (says g) p q e = absurd (subst OfNone e (rest_none (is_same one two) (leb (length result) 16777216) (leb (length result) room) (length result)))

  said_neither : (room n l b : ℕ) → merge_said first second result room ≡ of_neither n l b → MergeRefused first second room (of_neither n l b)
  said_neither room n l b e =
      let p = neither_accepted first second result room n l b e in
      rest_means room n l b p.0 p.1 (sym (said_rest first second p.0 p.1 notes room) ∙ e)

-- ---- of every answer that the contract allows

module _ (first second out : List ℕ) (r : Brought) (after : List ℕ) (w : FilesMerged first second out r after) where
  abbrev room : ℕ
  room = length out

  whole_of : (file : List ℕ) → Merges first second room file → merge_said first second (merged_file first w.notes) room ≡ merged (length file)
  whole_of file x = said_whole first second w.notes w.together room file x.made x.short x.fits

  pub merged_exactly : ((n : ℕ) → (r ≡ brought.Whole n) ↔ ((file : List ℕ) × Merges first second (length out) file × (length file ≡ n)))
      × ((file : List ℕ) → Merges first second (length out) file → after ≡ file ++ drop (length file) out)
  unfolding merge_told
  merged_exactly = (
    (λ n. (
      (λ e.
          let b = not_refused first second (merged_file first w.notes) room n (sym w.told ∙ ap merge_told e) in
          (merged_file first w.notes, record { made = is_merge first second w.notes w.together b.one b.two b.same; short = b.short; fits = b.fits }, b.size)),
      (λ x. merge_one r (brought.Whole n) (w.told ∙ whole_of x.0 x.1 ∙ ap merged x.2)),
    )),
    λ file x.
        w.bytes ∙ ap (λ (m : Merged). out_merged m (merged_file first w.notes) out) (whole_of file x)
        ∙ ap (λ (l : List ℕ). l ++ drop (length l) out) (sym (merge_is first second w.notes w.together file x.made)),
  )

  told_refused : (m : Merged) → MergeRefused first second room m → merge_told r ≡ m
  told_refused m x = w.told ∙ said_refused first second w.notes w.together room m x

  pub merge_refused_first : (n l b : ℕ)
      → ((merge_told r ≡ of_first n l b) ↔ MergeRefused first second (length out) (of_first n l b))
      × ((merge_told r ≡ of_second n l b) ↔ MergeRefused first second (length out) (of_second n l b))
      × ((merge_told r ≡ of_neither n l b) ↔ MergeRefused first second (length out) (of_neither n l b))
  merge_refused_first n l b = (
    ((λ e. said_first first second w.notes w.together room n l b (sym w.told ∙ e)), told_refused (of_first n l b)),
    ((λ e. said_second first second w.notes w.together room n l b (sym w.told ∙ e)), told_refused (of_second n l b)),
    ((λ e. said_neither first second w.notes w.together room n l b (sym w.told ∙ e)), told_refused (of_neither n l b)),
  )

  pub refused_leaves : (m : Merged) → MergeRefused first second (length out) m → after ≡ out
  refused_leaves m x = w.bytes ∙ ap (λ (k : Merged). out_merged k (merged_file first w.notes) out) (said_refused first second w.notes w.together room m x) ∙ stays m x
    where
      stays : (k : Merged) → MergeRefused first second room k → out_merged k (merged_file first w.notes) out ≡ out
      stays (merged _) x3 = elim x3 [ ]
      stays (of_first n l b) (first_file y) = refl
      stays (of_second n l b) (second_file k y) = refl
      stays (of_neither _ _ _) (not_same k j d) = refl
      stays (of_neither _ _ _) (too_long f y g) = refl
      stays (of_neither _ _ _) (no_room f y g h) = refl
