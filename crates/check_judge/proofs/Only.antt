-- One answer at most meets the promise of a line judged. Assumes nothing.
use Prim.Native.Nat.{ℕ}
use mathlib.Core.List.{List}
use Rattle.rules.specs.declared.State.{State}
use Rattle.rules_only.proofs.Told.{result_one}
use Rattle.rules_only.proofs.Only.{Only, alike}
use Rattle.check_judge.specs.Lines.{LineJudged}

pub only_line_judged : (l : List ℕ) (st : State) → Only (LineJudged l st)
only_line_judged l st = alike result_one
