-- `text_box::point` meets its contract: the letter goes by the sign. Assumes nothing.
use borrow.Author.Rules.{rules}
use Rattle.text_box.proofs.Laws.{point_up, point_down}
use Rattle.text_box.proofs.point.Goals as goal

pub returns-then-has_no_minus : goal.returns-then-has_no_minus
returns-then-has_no_minus c = search (point_up, rules)

pub returns : goal.returns
returns c = search (point_down, rules)
