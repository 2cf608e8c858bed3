-- `give` meets its contract. Assumes nothing.
use mathlib.Core.Path.{refl}
use Rattle.c_answers.proofs.Laws.{no_room, room}
use Rattle.c_answers.proofs.give.Goals as goal

pub returns-then-answer-ne-SIZE : goal.returns-then-answer-ne-SIZE
returns-then-answer-ne-SIZE c = no_room _ _ c.if-answer-ne-SIZE.true

pub returns : goal.returns
returns c = room _ _ _ _ c.if-answer-ne-SIZE.false refl c.copy_from_slice.ensures.after
