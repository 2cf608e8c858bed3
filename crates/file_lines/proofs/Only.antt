-- One answer at most meets each promise of this crate. Assumes nothing.
use Prim.Native.Nat.{ℕ}
use mathlib.Core.List.{List}
use Rattle.rules.specs.declared.Reason.{Reason}
use Rattle.rules_only.proofs.Only.{Only, same}
use Rattle.file_lines.specs.Ends.{UnplacedGiven, LineEnded, FirstFound}

pub only_unplaced_given : (reason : Reason) → Only (UnplacedGiven reason)
only_unplaced_given reason = same

pub only_line_ended : (file : List ℕ) (from : ℕ) → Only (LineEnded file from)
only_line_ended file from = same

pub only_first_found : (file : List ℕ) (at : ℕ) → Only (FirstFound file at)
only_first_found file at = same
