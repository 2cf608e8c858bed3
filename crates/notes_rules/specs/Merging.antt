-- Document 02, 'Bring evening notes together': what the merge of two files says, and the output afterwards.
use Rattle.std.specs.Prelude.{ℕ, List, ◌++◌, leb, length, drop, None}
use Rattle.rules.specs.Choice.{need}
use Rattle.rules.specs.Refusals.{number, Said, says, refuses}
use Rattle.rules.specs.Split.{lines_of}
use Rattle.rules.specs.Files.{verdict}
use Rattle.rules.specs.declared.Reason.TheVariants.{TooLong, NoRoom, NotSame}
use Rattle.rules.specs.declared.Flight.{Flight}
use Rattle.rules.specs.declared.Seal.TheVariants as seal
use Rattle.notes_rules.specs.Notes.{joined, common_part, is_same}

-- what is said: how many bytes the merged file has; or the number, line and byte of a refusal, of the first file, of the second, or of neither
pub data Merged : Type 0 where
  merged : ℕ → Merged
  of_first : ℕ → ℕ → ℕ → Merged
  of_second : ℕ → ℕ → ℕ → Merged
  of_neither : ℕ → ℕ → ℕ → Merged

-- "first file's": a refusal of the first file's check stays what it is
abbrev pub accept_first : Said Flight → (Flight → Merged) → Merged
accept_first (says f) more = more f
accept_first (refuses n l b) more = of_first n l b

-- "second file's"
abbrev pub accept_second : Said Flight → (Flight → Merged) → Merged
accept_second (says f) more = more f
accept_second (refuses n l b) more = of_second n l b

-- "make one: that common part, then the L lines after it"
abbrev pub merged_file : List ℕ → List (List ℕ) → List ℕ
merged_file first notes = common_part (lines_of first) ++ joined notes

-- "Refusals: first file's, second file's, then 26 NOT_SAME, then 2 for the result, then 18 if the output is shorter; 26 and every later new number come with line 0,
-- byte 0": where the output has `room` bytes, and the merged file is `result`. "No table is lent here". A file's refusal is that of the strict check: "the merge of CR 3 must now ask
-- for it by name"
unfoldable pub merge_said : List ℕ → List ℕ → List ℕ → ℕ → Merged
merge_said first second result room =
    accept_first (verdict seal.Strict first None) λ _.
    accept_second (verdict seal.Strict second None) λ _.
    need (is_same (common_part (lines_of first)) (common_part (lines_of second))) (of_neither (number NotSame) 0 0) λ _.
    need (leb (length result) 16777216) (of_neither (number TooLong) 0 0) λ _.
    need (leb (length result) room) (of_neither (number NoRoom) 0 0) λ _.
    merged (length result)

-- "a refusal leaves the output unchanged; bytes past a result stay"
abbrev pub out_merged : Merged → List ℕ → List ℕ → List ℕ
out_merged (merged n) result out = result ++ drop (length result) out
out_merged (of_first n l b) result out = out
out_merged (of_second n l b) result out = out
out_merged (of_neither n l b) result out = out
