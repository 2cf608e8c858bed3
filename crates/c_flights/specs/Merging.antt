-- The numbers of an answer on a merge, and the promise of the call: an equation on the number returned, the answer and the lent output afterwards.
use Rattle.std.specs.Prelude.{ℕ, List, [], ◌∷◌, length}
use Rattle.rules.specs.Refusals.{number}
use Rattle.rules.specs.Split.{lines_of}
use Rattle.rules.specs.declared.Refusal.{Refusal}
use Rattle.notes_sorted.specs.Sorted.{Together}
use Rattle.notes_rules.specs.Notes.{not_after, notes_in}
use Rattle.notes_rules.specs.Merging.{Merged, merged, of_first, of_second, of_neither, merged_file, merge_said, out_merged}
use Rattle.c_answers.specs.Answers.{size, filled, accepting, refusing, has_room, AnsweredBeside}
use Rattle.c_answers.specs.declared.Numbers.{Numbers}

-- a file's refusal: line, byte, no length, and which file's
abbrev pub file_refused : ℕ → ℕ → ℕ → ℕ → Numbers
file_refused n l b file = record { number = n; values = filled size (l ∷ b ∷ 0 ∷ file ∷ []) }

abbrev pub refused_of : Refusal → ℕ → Numbers
refused_of w file = file_refused (number w.reason) w.line w.byte file

-- how many bytes the merged file has; or a refusal, with 1 for the first file's and 2 for the second's
abbrev pub merge_numbers : Merged → Numbers
merge_numbers (merged n) = accepting (n ∷ [])
merge_numbers (of_first n l b) = file_refused n l b 1
merge_numbers (of_second n l b) = file_refused n l b 2
merge_numbers (of_neither n l b) = refusing n l b

-- "Given two accepted files .. make one", accepted by the strict check: of the notes brought together the number returned, the answer and the output are told; an answer of another length leaves all as it was
pub record MergeAnswered (first second out answer : List ℕ) (r : ℕ) (out_now answer_now : List ℕ) : Type 0 where
  pub notes : List (List ℕ)
  pub together : Together not_after (notes_in (lines_of first)) (notes_in (lines_of second)) notes
  pub answered : AnsweredBeside (has_room size answer) answer (merge_numbers (merge_said first second (merged_file first notes) (length out))) out (out_merged (merge_said first second (merged_file first notes) (length out)) (merged_file first notes) out) r answer_now out_now
