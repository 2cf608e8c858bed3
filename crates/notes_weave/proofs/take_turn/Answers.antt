-- `notes_weave::take_turn` meets its contract: the next note of the first, of the second or of both. Assumes nothing.
use Rattle.notes_weave.proofs.Turns.{turned_second, turned_first, turned_both}
use Rattle.notes_weave.proofs.take_turn.Goals as goal

pub returns-in-Greater : goal.returns-in-Greater
returns-in-Greater c = turned_second _ _ _ _ _ _ _ _ c.requires.0 c.requires.1 _ c.which.ensures _ _ c.in-Greater.is c.requires.4 _ c.advance-q.ensures c.emit-to.ensures

pub returns-in-Less : goal.returns-in-Less
returns-in-Less c = turned_first _ _ _ _ _ _ _ _ c.requires.0 c.requires.1 _ c.which.ensures _ _ c.requires.3 _ c.advance-p.ensures c.emit-to-in-Less.ensures c.in-Less.is

pub returns-in-Equal : goal.returns-in-Equal
returns-in-Equal c = turned_both _ _ _ _ _ _ _ _ c.requires.0 c.requires.1 _ c.which.ensures _ _ c.requires.3 _ c.advance-p-in-Equal.ensures c.emit-to-in-Equal.ensures c.in-Equal.is _ c.advance-q-in-Equal.ensures
