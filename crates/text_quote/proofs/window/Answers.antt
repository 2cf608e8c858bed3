-- `text_quote::window` meets its contract. Assumes nothing.
use Rattle.text_pieces.proofs.Parts.{rest_got}
use Rattle.text_quote.proofs.Pieces.{window_shown}
use Rattle.text_quote.proofs.window.Goals as goal

pub returns : goal.returns
returns c =
    let rest = rest_got _ _ _ _ c.get.ensures.lookup c.unwrap_or_default-rest.ensures in
    window_shown _ _ _ _ _ c.bytes_before.ensures rest c.min.ensures
