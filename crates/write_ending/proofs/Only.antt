-- One answer at most meets each promise of this crate. Assumes nothing.
use Prim.Native.Nat.{ℕ}
use mathlib.Core.List.{List}
use Rattle.rules.specs.declared.Reason.{Reason}
use Rattle.rules_only.proofs.Only.{Only, same, alike}
use Rattle.rules_only.proofs.Told.{result_one}
use Rattle.write_ending.specs.Ends.{LineClosed, WriteRefused}

pub only_line_closed : (rest : List ℕ) (at : ℕ) (out : List ℕ) → Only (LineClosed rest at out)
only_line_closed rest at out = same

pub only_write_refused : (reason : Reason) → Only (WriteRefused reason)
only_write_refused reason = alike result_one
