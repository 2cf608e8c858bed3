-- `text_quote::put_window` meets its contract. Assumes nothing.
use Rattle.text_quote.proofs.Pieces.{window_fills}
use Rattle.text_quote.proofs.put_window.Goals as goal

pub returns : goal.returns
returns c = search window_fills depth 8
