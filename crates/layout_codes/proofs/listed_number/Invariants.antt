-- `layout_codes::listed_number` meets its contract: the rows from i on decide as the whole table does. Assumes nothing.
use Prim.Native.Nat.{ℕ}
use mathlib.Core.Bool.{Bool}
use mathlib.Core.Path.{◌≡◌}
use lib.Dec.{eqb}
use lib.ListN.{drop}
use Rattle.rules.specs.Choice.{first_of}
use Rattle.rules.specs.Listed.{listed, listed_number}
use Rattle.rules.specs.declared.Listed.{Listed}
use Rattle.layout_codes.proofs.listed_number.Given as goal

abbrev pub same : ℕ → Listed → Bool
same x r = eqb r.code x

abbrev pub numbered : ℕ → Listed → ℕ
numbered n r = n

abbrev pub invariant-loop-i : goal.invariant-loop-i
invariant-loop-i l = first_of (same l.code) numbered (drop l.i listed) l.i ≡ listed_number l.code
