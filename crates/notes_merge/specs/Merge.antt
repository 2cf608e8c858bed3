-- The answer of the merge of two files, in the paper's terms, and its promise.
use Rattle.std.specs.Prelude.{ℕ, List, ◌≡◌, length, None}
use Rattle.rules.specs.Refusals.{number, says}
use Rattle.rules.specs.Split.{lines_of}
use Rattle.rules.specs.Files.{verdict}
use Rattle.rules.specs.declared.Flight.{Flight}
use Rattle.rules.specs.declared.Seal.TheVariants as seal
use Rattle.notes_sorted.specs.Sorted.{Together}
use Rattle.notes_rules.specs.Notes.{not_after, notes_in}
use Rattle.notes_rules.specs.Merging.{Merged, merged, of_first, of_second, of_neither, merged_file, merge_said, out_merged}
use Rattle.notes_merge.specs.declared.Brought.{Brought}
use Rattle.notes_merge.specs.declared.Brought.TheVariants as brought

-- "a separate strict check keeps the old rule, and .. the merge of CR 3 must now ask for it by name": the file passes the strict check, with no table
abbrev pub StrictlyAccepted : List ℕ → Type 0
StrictlyAccepted file = (f : Flight) × (verdict seal.Strict file None ≡ says f)

-- the answer, in the paper's terms
unfoldable pub merge_told : Brought → Merged
merge_told (brought.Whole n) = merged n
merge_told (brought.First r) = of_first (number r.reason) r.line r.byte
merge_told (brought.Second r) = of_second (number r.reason) r.line r.byte
merge_told (brought.Neither r) = of_neither (number r.reason) r.line r.byte

-- "Given two accepted files", by the strict check, "that common part, then the L lines after it, each kept as often as it occurs in whichever copy has it more often, in ascending byte order": of these notes the answer and the output
-- afterwards are told
pub record FilesMerged (first second out : List ℕ) (r : Brought) (after : List ℕ) : Type 0 where
  pub notes : List (List ℕ)
  pub together : Together not_after (notes_in (lines_of first)) (notes_in (lines_of second)) notes
  pub told : merge_told r ≡ merge_said first second (merged_file first notes) (length out)
  pub bytes : after ≡ out_merged (merge_said first second (merged_file first notes) (length out)) (merged_file first notes) out
