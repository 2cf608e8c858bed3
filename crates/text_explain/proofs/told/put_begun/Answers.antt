-- `text_explain::told::put_begun` meets its contract. Assumes nothing.
use native.Mathlib.Omega.{arith}
use borrow.Author.Rules.{rules}
use Rattle.rules.specs.Choice.{bytes}
use Rattle.text_pieces.proofs.Laws.{pieces}
use Rattle.text_quote.proofs.Pieces.{before_least}
use Rattle.text_explain.proofs.Pieces.{begun_none, begun_some}
use Rattle.text_explain.proofs.told.put_begun.Goals as goal

pub overflow_add-from : goal.overflow_add-from
overflow_add-from c =
    omega (arith, c.bytes_before-from.ensures, before_least c.args.byte, c.ranges.byte)

pub returns : goal.returns
unfolding bytes
returns c = search (begun_some, pieces) depth 16

pub returns-then-from-eq0 : goal.returns-then-from-eq0
returns-then-from-eq0 c = search begun_none
