-- One answer at most meets each promise of this crate. Assumes nothing.
use Rattle.std.specs.Prelude.{Option}
use Prim.Native.Nat.{ℕ}
use Rattle.rules.specs.declared.Counts.{Counts}
use Rattle.rules_only.proofs.Only.{Only, same}
use Rattle.check_clock.specs.Times.{BackTest, AfterTime}
use Rattle.check_clock.specs.declared.Pace.{Pace}

pub only_back_test : (before now : ℕ) → Only (BackTest before now)
only_back_test before now = same

pub only_after_time : (time : Option ℕ) (p : Pace) (next : ℕ) (counts : Counts) → Only (AfterTime time p next counts)
only_after_time time p next counts = same
