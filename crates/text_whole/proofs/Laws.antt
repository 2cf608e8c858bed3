-- The two ways out. Assumes nothing.
use Rattle.std.specs.Prelude.{None, Some}
use Prim.Native.Nat.{ℕ, ◌≤◌, ◌<◌}
use mathlib.Core.List.{List}
use mathlib.Core.Path.{◌≡◌, refl, ap}
use borrow.Author.Tests.{le-leb, lt-leb}
use lib.ListN.{length}
use Rattle.text_pieces.specs.Buffer.{PiecePut}
use Rattle.text_pieces.proofs.Laws.{whole}
use Rattle.text_whole.specs.Whole.{Delivered}

module _ (text out : List ℕ) where
  pub no_room : length out < length text → Delivered text out None out
  no_room h = record { said = rw (lt-leb (length text) (length out) h); bytes = rw (lt-leb (length text) (length out) h) }

  pub room : (n : ℕ) (after : List ℕ) → length text ≤ length out → PiecePut out 0 text n after → Delivered text out (Some n) after
  room n after h p =
      let s = whole refl h p in
      record { said = rw (le-leb (length text) (length out) h) (ap Some s.count); bytes = rw (le-leb (length text) (length out) h) s.bytes }
