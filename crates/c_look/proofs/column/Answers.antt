-- `column` meets its contract: the look number by number is the look into the entries. Assumes nothing.
use borrow.Author.Rules.{rules}
use Rattle.c_look.proofs.Same.{by_numbers}
use Rattle.c_look.proofs.column.Goals as goal

pub returns : goal.returns
returns c = search (by_numbers, rules) depth 8
