-- The answer of a summary in the paper's terms, and what is said and left by the number of fixes.
use Rattle.rules.specs.declared.Refusal.{Refusal}
use Rattle.std.specs.Prelude.{ℕ, ◌/◌, List, ◌≡◌, leb, ℤ, length, Result}
use Rattle.rules.specs.Choice.{need}
use Rattle.rules.specs.Refusals.{Said, says, no, refusal, result_told}
use Rattle.rules.specs.declared.Reason.TheVariants.{BadValue, NoRoom}
use Rattle.track_rules.specs.declared.FixStep.{FixStep}
use Rattle.track_rules.specs.declared.Progress.{Progress}
use Rattle.summary_reckon.specs.Summary.{runs_of, size_of}
use Rattle.summary_reckon.specs.Filled.{filled}

-- the answer, in the paper's terms

-- by the number of fixes that a file has: what is said, and the list afterwards
unfoldable pub count_said : ℕ → ℕ → ℕ → Said ℕ
count_said count old room =
    need (leb old count) (no BadValue 0) λ _.
    need (leb (size_of (runs_of count)) room) (no NoRoom 0) λ _.
    says (runs_of count)

unfoldable pub count_after : (Progress → FixStep) → Progress → ℕ → ℕ → List ℤ → List ℤ
count_after step start count old list =
    need (leb old count) list λ _.
    need (leb (size_of (runs_of count)) (length list)) list λ _.
    filled step start count (old / 256) list

-- no file has more than 16,777,216 fixes: another number is a value that is not allowed
unfoldable pub few_said : ℕ → ℕ → ℕ → Said ℕ
few_said count old room = need (leb count 16777216) (no BadValue 0) λ _. count_said count old room

unfoldable pub few_after : (Progress → FixStep) → Progress → ℕ → ℕ → List ℤ → List ℤ
few_after step start count old list = need (leb count 16777216) list λ _. count_after step start count old list

-- the answer by the number of fixes, and the list afterwards: run by run, as the code makes it. Where every fix fits, as those of a file do, that is the rule's list, Summary.updated (summary: filled-is)
pub record FixesSummed (step : Progress → FixStep) (start : Progress) (count old : ℕ) (list : List ℤ) (r : Result ℕ Refusal) (after : List ℤ) : Type 0 where
  pub told : result_told r ≡ few_said count old (length list)
  pub numbers : after ≡ few_after step start count old list
