-- `text_gpx::put_point` meets its contract. Assumes nothing.
use borrow.Author.Rules.{rules}
use Rattle.text_pieces.proofs.Laws.{then}
use Rattle.text_gpx.specs.Points.{point_shown}
use Rattle.text_gpx.proofs.put_point.Goals as goal

pub returns : goal.returns
unfolding point_shown
returns c = search (then, rules) depth 8
