-- `fix` meets its contract. Assumes nothing.
use borrow.Author.Rules.{rules}
use Rattle.std.proofs.lemmas.Result.{err_from_is_err_and}
use Rattle.c_given_write.specs.Written.{fix_written}
use Rattle.c_given_write.proofs.Laws.{write_refused, write_then}
use Rattle.c_given_write.proofs.fix.Goals as goal

pub returns-in_err-given : goal.returns-in_err-given
unfolding fix_written
returns-in_err-given c = let p = err_from_is_err_and c.from_residual.result c.from_residual.ensures.1 in rw (p.1, p.2) (write_refused _ _ _ _ _ _ c.layout.ensures _ c.in_err-given.was)

pub returns : goal.returns
unfolding fix_written
returns c = write_then _ _ _ _ _ _ c.layout.ensures _ _ _ c.in_ok-given.was c.fix.ensures
