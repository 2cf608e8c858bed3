-- For each promise of this crate: two answers that meet it are the same, and so is the buffer afterwards. Assumes nothing.
use Prim.Native.Nat.{ℕ}
use mathlib.Core.List.{List}
use mathlib.Core.Path.{◌≡◌, sym, ◌∙◌}
use Rattle.text_pieces.proofs.Only.{only_piece_put}
use Rattle.text_quote.specs.Quote.{quote, BytesBefore, QuotePut}

pub only_bytes_before : (b r r' : ℕ) → BytesBefore b r → BytesBefore b r' → r ≡ r'
only_bytes_before b r r' e e' = e ∙ sym e'

pub only_quote_put : (b : ℕ) (text out : List ℕ) (at r r' : ℕ) (after after' : List ℕ)
    → QuotePut b text out at r after → QuotePut b text out at r' after' → (r ≡ r') × (after ≡ after')
only_quote_put b text out at r r' after after' = only_piece_put out r r' after after' at (quote b text)
