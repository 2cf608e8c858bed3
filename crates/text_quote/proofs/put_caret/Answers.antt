-- `text_quote::put_caret` meets its contract. Assumes nothing.
use native.Mathlib.Omega.{arith}
use Rattle.text_pieces.proofs.Laws.{byte_then}
use Rattle.text_quote.proofs.Pieces.{caret_fills, before_least}
use Rattle.text_quote.proofs.put_caret.Goals as goal

pub overflow_sub-byte-2 : goal.overflow_sub-byte-2
overflow_sub-byte-2 c = omega (arith, before_least c.args.byte)

pub returns : goal.returns
returns c = search (caret_fills, byte_then) depth 8
