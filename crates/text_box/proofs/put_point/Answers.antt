-- `text_box::put_point` meets its contract. Assumes nothing.
use borrow.Author.Rules.{rules}
use Rattle.text_box.specs.Boxed.{point_shown}
use Rattle.text_box.proofs.put_point.Goals as goal

pub returns : goal.returns
unfolding point_shown
returns c =
    rw (c.point.ensures, c.number_at.ensures) at c.put_degrees.ensures
