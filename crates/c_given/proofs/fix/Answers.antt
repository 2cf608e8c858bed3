-- `fix` meets its contract. Assumes nothing.
use mathlib.Core.Path.{refl}
use borrow.Author.Rules.{rules}
use Rattle.rules.specs.Reads.{fix_reading_told}
use Rattle.std.proofs.lemmas.Result.{err_from_is_err_and}
use Rattle.rules.proofs.Links.{then_err}
use Rattle.line_known.proofs.Laws.{fix_read}
use Rattle.c_given.specs.Given.{fix_by}
use Rattle.c_given.proofs.Layouts.{known_then}
use Rattle.c_given.proofs.fix.Goals as goal

pub returns-in_err-given : goal.returns-in_err-given
unfolding fix_reading_told fix_by
returns-in_err-given c = let p = err_from_is_err_and c.from_residual.result c.from_residual.ensures.1 in rw (p.1, p.2) (then_err _ _ _ _ _ c.layout.ensures c.in_err-given.was refl)

pub returns : goal.returns
unfolding fix_by
returns c = known_then _ _ _ _ _ _ _ c.layout.ensures c.in_ok-given.was c.fix.ensures (fix_read _ _)
