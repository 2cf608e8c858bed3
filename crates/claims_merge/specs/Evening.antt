-- Document 02, 'Bring evening notes together': the words of what is demanded of the merge of two files.
use Rattle.std.specs.Prelude.{ℕ, ◌≤◌, ◌<◌, List, ◌∷◌, ◌++◌, ◌≡◌, length, drop, None}
use Rattle.rules.specs.Choice.{Each}
use Rattle.rules.specs.declared.Flight.{Flight}
use Rattle.rules.specs.declared.Seal.TheVariants as seal
use Rattle.notes_sorted.specs.Sorted.{Together}
use Rattle.notes_rules.specs.Notes.{not_after}
use Rattle.notes_rules.specs.Merging.{Merged, merged, of_first, of_second, of_neither}
use Rattle.notes_merge.specs.Merge.{FilesMerged}
use Rattle.notes_merge.specs.declared.Brought.TheVariants as brought
use Rattle.grammar.specs.Faults.{Refused}
use Rattle.grammar.specs.Grammar.{IsLLine, Parts, Meets, told_in, join_lines}
use Rattle.grammar_alike.specs.Alike.{without_l, SaysAlike}

-- "make one": a merge of the two, into some output, was not refused, and left this file at the output's front
pub record Makes (first second file : List ℕ) : Type 0 where
  pub out : List ℕ
  pub after : List ℕ
  pub says : FilesMerged first second out (brought.Whole (length file)) after
  pub left : after ≡ file ++ drop (length file) out

-- the number of what is said, 0 where it is no refusal
unfoldable pub number_in : Merged → ℕ
number_in (merged n) = 0
number_in (of_first k l b) = k
number_in (of_second k l b) = k
number_in (of_neither k l b) = k

-- "up to the end of the last G line": the lines of a file, as the grammar parts them, without the L lines behind the G lines
abbrev pub sealed_part : Parts → List (List ℕ)
sealed_part p = p.recorder ∷ p.day ∷ (p.headers ++ (told_in p ++ (p.body ++ p.seals)))

-- the bytes of that part
abbrev pub sealed_bytes : {file : List ℕ} → Meets seal.Strict file → List ℕ
sealed_bytes m = join_lines (sealed_part m.parts)

-- ---- the answer

-- "make one": both copies meet the grammar of the strict check, and have the same bytes up to the end of the last G line; the file is these bytes, and behind them the notes of both, each
-- as often as in the copy that has it more often, in order
pub record IsMerge (first second file : List ℕ) : Type 0 where
  pub one : Meets seal.Strict first
  pub two : Meets seal.Strict second
  pub same : sealed_bytes one ≡ sealed_bytes two
  pub notes : List (List ℕ)
  pub together : Together not_after one.parts.remarks two.parts.remarks notes
  pub is : file ≡ sealed_bytes one ++ join_lines notes

-- this file keeps to the limit of a file, and has room in an output of `room` bytes
pub record Merges (first second : List ℕ) (room : ℕ) (file : List ℕ) : Type 0 where
  pub made : IsMerge first second file
  pub short : length file ≤ 16777216
  pub fits : length file ≤ room

-- a refusal, with whose it is, number, line and byte: the first file's, the second's, "26 NOT_SAME", "2 for the result", "18 if the output is shorter", each where none before it applies. A
-- file's own are those of the strict check, with no table
pub data MergeRefused (first second : List ℕ) (room : ℕ) : Merged → Type 0 where
  first_file : {n l b : ℕ} → Refused seal.Strict first None n l b → MergeRefused first second room (of_first n l b)
  second_file : {n l b : ℕ} → Meets seal.Strict first → Refused seal.Strict second None n l b → MergeRefused first second room (of_second n l b)
  not_same : (one : Meets seal.Strict first) (two : Meets seal.Strict second) → (sealed_bytes one ≡ sealed_bytes two → ⊥) → MergeRefused first second room (of_neither 26 0 0)
  too_long : (file : List ℕ) → IsMerge first second file → 16777216 < length file → MergeRefused first second room (of_neither 2 0 0)
  no_room : (file : List ℕ) → IsMerge first second file → length file ≤ 16777216 → room < length file → MergeRefused first second room (of_neither 18 0 0)

-- ---- reading alike

-- two files, of which their checks say f and g and which have these lines, read alike but for the L lines at their ends
pub record ReadAlike (f : Flight) (ls : List (List ℕ)) (g : Flight) (ks : List (List ℕ)) : Type 0 where
  -- they say the same, and have the same lines of each kind other than L
  pub same : SaysAlike f ls g ks
  -- the same lines at the front, and L lines behind them
  pub common : List (List ℕ)
  pub notes : List (List ℕ)
  pub others : List (List ℕ)
  pub lines : ls ≡ common ++ notes
  pub also : ks ≡ common ++ others
  pub remarks : Each IsLLine notes
  pub remarks_too : Each IsLLine others
  -- so the lines other than L lines are the same in the same order
  pub unnoted : without_l ks ≡ without_l ls
