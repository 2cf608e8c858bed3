-- `write_point::fill_point` meets its contract. Assumes nothing.
use borrow.Author.Rules.{rules}
use Rattle.rules.specs.Writes.{point_text}
use Rattle.write_fields.proofs.Laws.{fields}
use Rattle.write_ending.proofs.Laws.{regroup}
use Rattle.write_point.proofs.fill_point.Goals as goal

pub returns : goal.returns
unfolding point_text
returns c = search (fields, regroup) depth 16
