-- What `of_fixes` answers and leaves in the list at each way out. Assumes nothing.
use Rattle.rules.specs.Refusals.{result_told}
use Rattle.std.specs.Prelude.{Err, Ok}
use Prim.Native.Nat.{ℕ, ◌/◌, ◌≤◌, ◌<◌}
use mathlib.Core.List.{List}
use mathlib.Core.Path.{◌≡◌}
use borrow.Author.Tests.{le-leb, lt-leb}
use lib.IntN.{ℤ}
use lib.ListN.{length}
use Rattle.rules.specs.declared.Reason.TheVariants as reason
use Rattle.rules.specs.declared.Refusal.{Refusal}
use Rattle.file_lines.specs.Ends.{unplaced}
use Rattle.track_rules.specs.declared.FixStep.{FixStep}
use Rattle.track_rules.specs.declared.Progress.{Progress}
use Rattle.summary_reckon.specs.Filled.{filled}
use Rattle.summary_reckon.specs.Reckoned.{count_said, count_after, few_said, few_after, FixesSummed}
use Rattle.summary_reckon.specs.Summary.{runs_of, size_of}

module _ (step : Progress → FixStep) (start : Progress) (count old : ℕ) (list : List ℤ) where
  pub count_over : (w : Refusal) → 16777216 < count → w ≡ unplaced reason.BadValue → FixesSummed step start count old list (Err w) list
  unfolding result_told few_said few_after
  count_over w h e = record { told = rw (lt-leb count 16777216 h, e); numbers = rw (lt-leb count 16777216 h) }

  module _ (few : count ≤ 16777216) where
    pub old_over : (w : Refusal) → count < old → w ≡ unplaced reason.BadValue → FixesSummed step start count old list (Err w) list
    unfolding result_told count_said count_after few_said few_after
    old_over w h e = record { told = rw (le-leb count 16777216 few, lt-leb old count h, e); numbers = rw (le-leb count 16777216 few, lt-leb old count h) }

    pub list_short : (w : Refusal) → old ≤ count → length list < size_of (runs_of count) → w ≡ unplaced reason.NoRoom → FixesSummed step start count old list (Err w) list
    unfolding result_told count_said count_after few_said few_after
    list_short w g h e = record {
      told = rw (le-leb count 16777216 few, le-leb old count g, lt-leb (size_of (runs_of count)) (length list) h, e);
      numbers = rw (le-leb count 16777216 few, le-leb old count g, lt-leb (size_of (runs_of count)) (length list) h);
    }

    pub list_filled : (after : List ℤ) → old ≤ count → size_of (runs_of count) ≤ length list → after ≡ filled step start count (old / 256) list
        → FixesSummed step start count old list (Ok (runs_of count)) after
    unfolding result_told count_said count_after few_said few_after
    list_filled after g h e = record {
      told = rw (le-leb count 16777216 few, le-leb old count g, le-leb (size_of (runs_of count)) (length list) h);
      numbers = rw (le-leb count 16777216 few, le-leb old count g, le-leb (size_of (runs_of count)) (length list) h) e;
    }
