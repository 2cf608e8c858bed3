-- The promises of the summary.
use Rattle.rules.specs.declared.Refusal.{Refusal}
use Rattle.std.specs.Prelude.{ℕ, List, ◌≡◌, ℤ, length, None, Result}
use Rattle.rules.specs.Files.{verdict}
use Rattle.rules.specs.Order.{no_flight}
use Rattle.rules.specs.Refusals.{value_or, result_told}
use Rattle.track_rules.specs.Track.{track_seal}
use Rattle.summary_reckon.specs.Summary.{summary_said, summary_after}
use Rattle.summary.specs.declared.Dated.{Dated}

-- "Keep a summary in a lent list of i32 numbers": the answer, and the list afterwards
pub record FileSummed (file : List ℕ) (old : ℕ) (list : List ℤ) (r : Result ℕ Refusal) (after : List ℤ) : Type 0 where
  pub told : result_told r ≡ summary_said file old (length list)
  pub numbers : after ≡ summary_after file old list

-- the same, and the date that the usual check says; day, month and year 0 where it refuses the file
pub record FileDated (file : List ℕ) (old : ℕ) (list : List ℤ) (r : Dated) (after : List ℤ) : Type 0 where
  pub summed : FileSummed file old list r.answer after
  pub date : r.date ≡ (value_or no_flight (verdict track_seal file None)).date
