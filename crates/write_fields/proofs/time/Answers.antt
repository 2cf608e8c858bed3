-- `write_fields::time` meets its contract: the leap second, and any other. Assumes nothing.
use borrow.Author.Rules.{rules}
use Rattle.write_fields.proofs.Laws.{put_leap, put_usual}
use Rattle.write_fields.proofs.time.Goals as goal

pub returns-then-s-eq86400 : goal.returns-then-s-eq86400
returns-then-s-eq86400 c = search (put_leap, rules)

pub returns : goal.returns
returns c = search (put_usual, rules)
