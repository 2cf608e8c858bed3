-- `told_layout` meets its contract: each way out is a way through `told_layout`. Assumes nothing.
use mathlib.Core.Path.{refl}
use borrow.Author.Rules.{rules}
use Rattle.layout_family.proofs.Laws.{family_of_lem, no_family}
use Rattle.layout.proofs.Turns.{told_same}
use Rattle.rules.specs.Refusals.{result_told}
use Rattle.c_given.specs.Given.{told_layout}
use Rattle.c_given.proofs.told_layout.Goals as goal

pub returns-in_default : goal.returns-in_default
unfolding told_layout result_told
returns-in_default c = no_family _ _ _ _ _ c.layout_family.ensures c.in_default.is refl

pub returns : goal.returns
unfolding told_layout
returns c = told_same _ _ _ (family_of_lem _ _ _ _ _ _ c.layout_family.ensures c.in-Some.is refl) c.layout_of.ensures
