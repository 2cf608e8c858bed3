-- No table is lent to a merge, so that 15 isn't met: no answer of the merge has it. Assumes nothing.
use Rattle.std.specs.Prelude.{None}
use Prim.Native.Nat.{ℕ}
use mathlib.Core.Bool.{Bool, true, false}
use mathlib.Core.List.{List}
use mathlib.Core.Path.{◌≡◌, refl, sym, ◌∙◌, ap}
use native.Mathlib.Omega.{arith}
use lib.Dec.{eqb, leb}
use lib.ListN.{length}
use Rattle.rules.specs.Choice.{need}
use Rattle.rules.specs.Refusals.{number, Said, says, refuses}
use Rattle.rules.specs.Split.{lines_of}
use Rattle.rules.specs.Files.{verdict}
use Rattle.rules.specs.declared.Flight.{Flight}
use Rattle.rules.specs.declared.Reason.TheVariants.{TooLong, NoRoom, NotSame}
use Rattle.rules.specs.declared.Seal.TheVariants as seal
use Rattle.rules.proofs.Inverse.{false_true}
use Rattle.notes_rules.specs.Notes.{common_part, is_same}
use Rattle.notes_rules.specs.Merging.{Merged, merged, of_neither, accept_first, accept_second, merged_file, merge_said}
use Rattle.notes_merge.specs.Merge.{merge_told, FilesMerged}
use Rattle.notes_merge.specs.declared.Brought.{Brought}
use Rattle.grammar_untabled.proofs.NeverFull.{check_never_full}
use Rattle.claims_merge.specs.Evening.{number_in}

abbrev Never : Merged → Type 0
Never m = number_in m ≡ 15 → ⊥

unlike : (n : ℕ) → eqb n 15 ≡ false → n ≡ 15 → ⊥
unlike n e h = false_true (sym e ∙ ap (λ (k : ℕ). eqb k 15) h)

never_need : (t : Bool) (m : Merged) (more : Unit {0} → Merged) → Never m → Never (more tt) → Never (need t m more)
never_need true m more h k = k
never_need false m more h k = h

said_never_full : (first second file : List ℕ) (room : ℕ) → Never (merge_said first second file room)
unfolding merge_said number number_in
said_never_full first second file room = one (verdict seal.Strict first None) refl
  where
    rest : Never (need (is_same (common_part (lines_of first)) (common_part (lines_of second))) (of_neither (number NotSame) 0 0) λ _.
        need (leb (length file) 16777216) (of_neither (number TooLong) 0 0) λ _. need (leb (length file) room) (of_neither (number NoRoom) 0 0) λ _. merged (length file))
    rest =
        never_need (is_same (common_part (lines_of first)) (common_part (lines_of second))) _ _ (λ e. omega (arith, e))
        (never_need (leb (length file) 16777216) _ _ (λ e. omega (arith, e)) (never_need (leb (length file) room) _ _ (λ e. omega (arith, e)) (λ e. omega (arith, e))))

    two : (s : Said Flight) → verdict seal.Strict second None ≡ s → Never (accept_second s λ _.
        need (is_same (common_part (lines_of first)) (common_part (lines_of second))) (of_neither (number NotSame) 0 0) λ _.
        need (leb (length file) 16777216) (of_neither (number TooLong) 0 0) λ _. need (leb (length file) room) (of_neither (number NoRoom) 0 0) λ _. merged (length file))
    two (says f) e = rest
    two (refuses n l b) e = unlike n (check_never_full seal.Strict second n l b e)

    one : (s : Said Flight) → verdict seal.Strict first None ≡ s → Never (accept_first s λ _. accept_second (verdict seal.Strict second None) λ _.
        need (is_same (common_part (lines_of first)) (common_part (lines_of second))) (of_neither (number NotSame) 0 0) λ _.
        need (leb (length file) 16777216) (of_neither (number TooLong) 0 0) λ _. need (leb (length file) room) (of_neither (number NoRoom) 0 0) λ _. merged (length file))
    one (says f) e = two (verdict seal.Strict second None) refl
    one (refuses n l b) e = unlike n (check_never_full seal.Strict first n l b e)

pub never_full : (first second out : List ℕ) (r : Brought) (after : List ℕ) → FilesMerged first second out r after → number_in (merge_told r) ≡ 15 → ⊥
never_full first second out r after w e = said_never_full first second (merged_file first w.notes) (length out) (ap number_in (sym w.told) ∙ e)
