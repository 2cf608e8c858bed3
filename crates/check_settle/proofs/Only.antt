-- One answer at most meets each promise of this crate. Assumes nothing.
use Rattle.std.specs.Prelude.{Result, ⊤}
use Prim.Native.Nat.{ℕ}
use mathlib.Core.Path.{◌≡◌}
use Rattle.rules.specs.Refusals.{Said}
use Rattle.rules.specs.declared.Reason.{Reason}
use Rattle.rules.specs.declared.Refusal.{Refusal}
use Rattle.rules.specs.declared.State.{State}
use Rattle.rules_only.proofs.Only.{Only, same, alike}
use Rattle.rules_only.proofs.Told.{result_one}
use Rattle.check_settle.specs.Settled.{JudgedTold, LinePassed, LineRefused, RefusedAt, OutcomeJudged, TimeJudged}

pub only_line_passed : (st : State) → Only (LinePassed st)
only_line_passed st = alike result_one

pub only_line_refused : (why : Refusal) → Only (LineRefused why)
only_line_refused why = alike result_one

pub only_refused_at : (reason : Reason) (byte : ℕ) → Only (RefusedAt reason byte)
only_refused_at reason byte = alike result_one

pub only_outcome_judged : (read : Result ⊤ Refusal) (st : State) → Only (OutcomeJudged read st)
only_outcome_judged read st = alike result_one

pub only_time_judged : (read : Result ℕ Refusal) (st : State) → Only (TimeJudged read st)
only_time_judged read st = alike result_one
