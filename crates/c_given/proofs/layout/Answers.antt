-- `layout` meets its contract. Assumes nothing.
use mathlib.Core.Path.{refl}
use borrow.Author.Rules.{rules}
use Rattle.c_given.proofs.Layouts.{no_line, line_read, line_refused}
use Rattle.c_given.proofs.layout.Goals as goal

pub returns-then-line-eq0 : goal.returns-then-line-eq0
returns-then-line-eq0 c = no_line _ _ _ c.if-line-eq0.true c.empty_layout.ensures

pub returns-in-Ok : goal.returns-in-Ok
returns-in-Ok c = line_read _ _ _ _ c.if-line-eq0.false c.layout_of.ensures c.in-Ok.is

pub returns-in-Err : goal.returns-in-Err
returns-in-Err c = line_refused _ _ _ _ _ c.if-line-eq0.false c.layout_of.ensures c.in-Err.is refl
