-- `extra_with` meets its contract. Assumes nothing.
use mathlib.Core.Path.{refl}
use borrow.Author.Rules.{rules}
use Rattle.rules.specs.Reads.{extra_reading_told}
use Rattle.std.proofs.lemmas.Result.{err_from_is_err_and}
use Rattle.rules.proofs.Links.{then_err}
use Rattle.line_known.proofs.Laws.{extra_read}
use Rattle.c_given.specs.Given.{extra_with}
use Rattle.c_given.proofs.Layouts.{known_then}
use Rattle.c_given.proofs.extra_with.Goals as goal

pub returns-in_err-given : goal.returns-in_err-given
unfolding extra_reading_told extra_with
returns-in_err-given c = let p = err_from_is_err_and c.from_residual.result c.from_residual.ensures.1 in rw (p.1, p.2) (then_err _ _ _ _ _ c.layout.ensures c.in_err-given.was refl)

pub returns : goal.returns
unfolding extra_with
returns c = known_then _ _ _ _ _ _ _ c.layout.ensures c.in_ok-given.was c.extra.ensures (extra_read _ _ _)
