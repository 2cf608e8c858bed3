-- `text_explain::refused` meets its contract. Assumes nothing.
use borrow.Author.Rules.{rules}
use Rattle.text_pieces.proofs.Laws.{whole}
use Rattle.text_explain.proofs.Room.{explanation_room}
use Rattle.text_explain.proofs.refused.Goals as goal

pub returns : goal.returns
returns c = whole c.put_explanation-arg-1.given.0.1 (explanation_room _ _) c.put_explanation.ensures
