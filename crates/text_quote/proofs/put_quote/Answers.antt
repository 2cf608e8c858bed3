-- `text_quote::put_quote` meets its contract. Assumes nothing.
use Rattle.text_quote.proofs.Pieces.{quote_none, quote_text, quote_fills}
use Rattle.text_quote.proofs.put_quote.Goals as goal

pub returns-then-text-eq0 : goal.returns-then-text-eq0
returns-then-text-eq0 c = search quote_none depth 8

pub returns-then-byte-eq0 : goal.returns-then-byte-eq0
returns-then-byte-eq0 c = search quote_text depth 8

pub returns : goal.returns
returns c = search quote_fills depth 8
