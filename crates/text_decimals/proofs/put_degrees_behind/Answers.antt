-- `text_decimals::put_degrees_behind` meets its contract. Assumes nothing.
use borrow.Author.Rules.{rules}
use Rattle.text_pieces.proofs.Laws.{pieces}
use Rattle.byte_tens.proofs.Laws.{told_few}
use Rattle.text_decimals.proofs.Laws.{minus_fills, plain_fills}
use Rattle.text_decimals.proofs.put_degrees_behind.Goals as goal

pub put_decimals-requires : goal.put_decimals-requires
put_decimals-requires c = search (told_few, rules)

pub returns-then-is_negated : goal.returns-then-is_negated
returns-then-is_negated c = search (pieces, minus_fills, plain_fills) depth 16

pub put_decimals-requires-2 : goal.put_decimals-requires-2
put_decimals-requires-2 c = search (told_few, rules)

pub returns : goal.returns
returns c = search (pieces, minus_fills, plain_fills) depth 16
