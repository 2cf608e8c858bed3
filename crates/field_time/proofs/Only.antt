-- One answer at most meets the promise of this crate. Assumes nothing.
use Prim.Native.Nat.{ℕ}
use Rattle.rules_only.proofs.Only.{Only, same}
use Rattle.field_time.specs.Days.{DaysGiven}

pub only_days_given : (y m : ℕ) → Only (DaysGiven y m)
only_days_given y m = same
