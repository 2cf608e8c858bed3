-- One answer at most meets each promise of this crate. Assumes nothing.
use Prim.Native.Nat.{ℕ}
use mathlib.Core.List.{List}
use Rattle.rules.specs.declared.Family.{Family}
use Rattle.rules.specs.declared.State.{State}
use Rattle.rules_only.proofs.Told.{result_one}
use Rattle.rules_only.proofs.Only.{Only, alike}
use Rattle.check_after.specs.Judges.{HeaderJudged, LayoutJudged, DeclarationJudged, ColumnedJudged}

pub only_header_judged : (l : List ℕ) (st : State) → Only (HeaderJudged l st)
only_header_judged l st = alike result_one

pub only_layout_judged : (f : Family) (l : List ℕ) (st : State) → Only (LayoutJudged f l st)
only_layout_judged f l st = alike result_one

pub only_declaration_judged : (l : List ℕ) (st : State) → Only (DeclarationJudged l st)
only_declaration_judged l st = alike result_one

pub only_columned_judged : (f : Family) (l : List ℕ) (st : State) → Only (ColumnedJudged f l st)
only_columned_judged f l st = alike result_one
