-- `presence` meets its contract. Assumes nothing.
use mathlib.Core.Path.{refl}
use borrow.Author.Rules.{rules}
use Rattle.rules.proofs.Links.{then_ok, then_err}
use Rattle.rules.proofs.Handed.{handed_on}
use Rattle.c_given.specs.Given.{presence_by}
use Rattle.c_given.proofs.presence.Goals as goal

pub returns-in_err-given : goal.returns-in_err-given
unfolding presence_by
returns-in_err-given c = handed_on _ _ _ c.from_residual.ensures.1 (then_err _ _ _ _ _ c.layout.ensures c.in_err-given.was refl)

pub returns : goal.returns
unfolding presence_by
returns c = then_ok _ _ _ _ _ c.layout.ensures c.in_ok-given.was c.presence.ensures
