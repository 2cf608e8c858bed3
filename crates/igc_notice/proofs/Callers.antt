-- What a caller asks of a text of which its buffer took as much as it has room for. Assumes nothing.
use Prim.Native.Nat.{ℕ, ◌-◌, ◌≤◌}
use mathlib.Core.List.{List}
use mathlib.Core.Path.{◌≡◌, ap, sym}
use native.Mathlib.Omega.{arith}
use lib.ListN.{length, take, length-take}
use lib.Seq.{length-sets, length-take-le}
use Rattle.text_pieces.specs.Buffer.{PiecePut}

-- ---- `&out[..r]` is there

module _ {text out after : List ℕ} {r : ℕ} (p : PiecePut out 0 text r after) where
  pub piece_fits : r ≤ length after
  piece_fits = omega (arith, p.next, length-take (length out - 0) text, ap length p.bytes, length-sets out 0 (take (length out - 0) text))

  pub piece_counts : r ≡ length (take r after)
  piece_counts = sym (length-take-le r after piece_fits)
