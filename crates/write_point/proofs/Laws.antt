-- How long a C point line is. Assumes nothing.
use Prim.Native.Nat.{ℕ, ◌+◌}
use mathlib.Core.List.{List}
use mathlib.Core.Path.{◌≡◌}
use native.Mathlib.Omega.{arith}
use lib.ListN.{length, length-append}
use Rattle.rules.specs.Writes.{point_text}
use Rattle.rules.specs.declared.Point.{Point}
use Rattle.write_fields.proofs.Laws.{position_length}

pub point_length : (p : Point) (rest : List ℕ) → length (point_text p rest) + 2 ≡ 20 + length rest
unfolding point_text
point_length p rest = simp (length-append, position_length) (omega arith)
