-- One answer at most meets each promise of this crate. Assumes nothing.
use Prim.Native.Nat.{ℕ}
use mathlib.Core.List.{List}
use Rattle.rules.specs.declared.State.{State}
use Rattle.rules_only.proofs.Told.{result_one}
use Rattle.rules_only.proofs.Only.{Only, alike}
use Rattle.check_carried.specs.Carried.{SealJudged, RemarkJudged, OtherJudged}

pub only_seal_judged : (l : List ℕ) (st : State) → Only (SealJudged l st)
only_seal_judged l st = alike result_one

pub only_remark_judged : (l : List ℕ) (st : State) → Only (RemarkJudged l st)
only_remark_judged l st = alike result_one

pub only_other_judged : (l : List ℕ) (st : State) → Only (OtherJudged l st)
only_other_judged l st = alike result_one
