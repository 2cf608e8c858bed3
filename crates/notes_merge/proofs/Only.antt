-- No second answer meets the promise of `merge`, and the output is afterwards one thing: only one list of notes is both copies' notes brought together. Assumes nothing.
use Prim.Native.Nat.{ℕ}
use mathlib.Core.List.{List}
use mathlib.Core.Path.{refl, sym, ◌∙◌, ap}
use lib.ListN.{length}
use Rattle.rules.specs.Split.{lines_of}
use Rattle.rules_only.proofs.Told.{OneToOne, by_back, refusal_of, refusal_back}
use Rattle.rules_only.proofs.Only.{OnlyBoth}
use Rattle.notes_sorted.proofs.Pairs.{together_once}
use Rattle.notes_rules.specs.Notes.{notes_in}
use Rattle.notes_rules.specs.Merging.{Merged, merged, of_first, of_second, of_neither, merged_file, merge_said, out_merged}
use Rattle.notes_rules.proofs.Texts.{texts}
use Rattle.notes_merge.specs.Merge.{merge_told, FilesMerged}
use Rattle.notes_merge.specs.declared.Brought.{Brought}
use Rattle.notes_merge.specs.declared.Brought.TheVariants as brought

back : Merged → Brought
back (merged n) = brought.Whole n
back (of_first n l b) = brought.First (refusal_of n l b)
back (of_second n l b) = brought.Second (refusal_of n l b)
back (of_neither n l b) = brought.Neither (refusal_of n l b)

pub merge_one : OneToOne merge_told
unfolding merge_told back
merge_one =
    by_back back (elim [ brought.Whole n ↦ refl | brought.First r ↦ ap brought.First (refusal_back r) | brought.Second r ↦ ap brought.Second (refusal_back r) | brought.Neither r ↦ ap brought.Neither (refusal_back r) ])

pub only_files_merged : (first second out : List ℕ) → OnlyBoth (FilesMerged first second out)
only_files_merged first second out r r' after after' w w' =
    let e = together_once texts (notes_in (lines_of first)) (notes_in (lines_of second)) w.notes w'.notes w.together w'.together in
    let said : List (List ℕ) → Merged = λ notes. merge_said first second (merged_file first notes) (length out) in (
      merge_one r r' (w.told ∙ ap said e ∙ sym w'.told),
      w.bytes ∙ ap (λ (notes : List (List ℕ)). out_merged (said notes) (merged_file first notes) out) e ∙ sym w'.bytes,
    )
