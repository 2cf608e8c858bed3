-- `fix` meets its contract: the altitudes given are those of the fix that is written. Assumes nothing.
use borrow.Author.Rules.{rules}
use mir.Syntax.{w32}
use mir.ValLaws.{to_z-of_z}
use Rattle.c_answers.proofs.Laws.{beside_no_room}
use Rattle.c_writers.proofs.Laws.{write_room}
use Rattle.c_writers.proofs.fix.Goals as goal

pub returns-then-answer-ne-SIZE : goal.returns-then-answer-ne-SIZE
returns-then-answer-ne-SIZE c = beside_no_room _ _ _ _ c.if-answer-ne-SIZE.true

pub returns : goal.returns
returns c = write_room _ _ _ _ _ _ _ _ _ _ c.if-answer-ne-SIZE.false (rw (c.fix_from-f.ensures, to_z-of_z w32 c.args.pressure c.ranges.pressure, to_z-of_z w32 c.args.gnss c.ranges.gnss) at c.fix-wrote.ensures) c.count.ensures c.give.ensures
