-- `angles::degrees` meets its contract. Assumes nothing.
use borrow.Author.Rules.{rules}
use Rattle.c_lines.proofs.Laws.{degrees_no_room, degrees_room}
use Rattle.c_lines.proofs.angles.degrees.Goals as goal

pub returns-then-degrees-ne2 : goal.returns-then-degrees-ne2
returns-then-degrees-ne2 c = degrees_no_room _ _ _ c.if-degrees-ne2.true

pub returns : goal.returns
returns c = degrees_room _ _ _ _ _ _ c.if-degrees-ne2.false c.degrees-read.ensures c.number.ensures c.put_degrees.ensures
