-- What a caller asks of a text that was put into its buffer. Assumes nothing.
use Prim.Native.Nat.{ℕ, ◌≤◌}
use mathlib.Core.List.{List}
use mathlib.Core.Path.{◌≡◌, sym, ap}
use native.Mathlib.Omega.{arith}
use lib.ListN.{length, take, drop, length-append}
use lib.Seq.{take_at}
use Rattle.text_pieces.specs.Buffer.{Shown}

-- ---- `&out[..r]` is the text

module _ {text out after : List ℕ} {r : ℕ} (s : Shown text out r after) where
  pub shown_text : take r after ≡ text
  shown_text = rw s.bytes (take_at text (drop (length text) out) r (sym s.count))

  pub shown_counts : r ≡ length (take r after)
  shown_counts = rw shown_text s.count

  pub shown_fits : r ≤ length after
  shown_fits = omega (arith, s.count, length-append text (drop (length text) out), ap length s.bytes)
