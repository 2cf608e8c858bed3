-- 26 exactly: the merge answers it where both files are accepted and their common parts differ, and nowhere else. Assumes nothing.
use Rattle.std.specs.Prelude.{None}
use Prim.Native.Nat.{ℕ}
use mathlib.Core.List.{List}
use mathlib.Core.Logic.{◌↔◌}
use mathlib.Core.Path.{◌≡◌, refl, sym, ◌∙◌}
use native.Mathlib.Omega.{arith}
use lib.ListN.{length}
use Rattle.rules.specs.Refusals.{number, Said, says, refuses}
use Rattle.rules.specs.Split.{lines_of}
use Rattle.rules.specs.Files.{verdict}
use Rattle.rules.specs.declared.Flight.{Flight}
use Rattle.rules.specs.declared.Reason.TheVariants.{NotSame}
use Rattle.rules.specs.declared.Seal.TheVariants as seal
use Rattle.notes_rules.specs.Notes.{common_part}
use Rattle.notes_rules.specs.Merging.{Merged, of_neither, accept_first, accept_second, merged_file, merge_said}
use Rattle.notes_merge.specs.Merge.{StrictlyAccepted, merge_told, FilesMerged}
use Rattle.notes_merge.specs.declared.Brought.{Brought}
use Rattle.claims_merge.proofs.Turned.{not_same_accepted}

first_passed : (s : Said Flight) (more : Flight → Merged) (k l b : ℕ) → accept_first s more ≡ of_neither k l b → (f : Flight) × (s ≡ says f) × (more f ≡ of_neither k l b)
first_passed (says f) more k l b e = (f, refl, e)
first_passed (refuses n m c) more k l b e = let z : ◌≡◌ {A = ℕ} 0 1 = cc in absurd (omega arith)

second_passed : (s : Said Flight) (more : Flight → Merged) (k l b : ℕ) → accept_second s more ≡ of_neither k l b → (f : Flight) × (s ≡ says f) × (more f ≡ of_neither k l b)
second_passed (says f) more k l b e = (f, refl, e)
second_passed (refuses n m c) more k l b e = let z : ◌≡◌ {A = ℕ} 0 1 = cc in absurd (omega arith)

-- what is said of neither file is said where both are accepted
pub neither_accepted : (first second file : List ℕ) (room k l b : ℕ) → merge_said first second file room ≡ of_neither k l b → StrictlyAccepted first × StrictlyAccepted second
unfolding merge_said
neither_accepted first second file room k l b e =
    let p = first_passed (verdict seal.Strict first None) _ k l b e in
    let q = second_passed (verdict seal.Strict second None) _ k l b p.2 in
    ((p.0, p.1), (q.0, q.1))

pub not_same_exactly : (first second out : List ℕ) (r : Brought) (after : List ℕ) → FilesMerged first second out r after
    → (merge_told r ≡ of_neither (number NotSame) 0 0) ↔ (StrictlyAccepted first × StrictlyAccepted second × (common_part (lines_of first) ≡ common_part (lines_of second) → ⊥))
not_same_exactly first second out r after w = (there, λ h. (not_same_accepted first second out r after h.0 h.1 w).1 h.2)
  where
    there : merge_told r ≡ of_neither (number NotSame) 0 0 → StrictlyAccepted first × StrictlyAccepted second × (common_part (lines_of first) ≡ common_part (lines_of second) → ⊥)
    there e =
        let told : merge_said first second (merged_file first w.notes) (length out) ≡ of_neither (number NotSame) 0 0 = sym w.told ∙ e in
        let p = neither_accepted first second (merged_file first w.notes) (length out) (number NotSame) 0 0 told in
        (p.0, p.1, (not_same_accepted first second out r after p.0 p.1 w).0 e)
