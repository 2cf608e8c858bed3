-- `byte_put::text` meets its contract: what is left to put from here is the whole answer. Assumes nothing.
use Prim.Native.Nat.{◌≤◌, ◌+◌}
use mathlib.Core.Path.{◌≡◌}
use lib.ListN.{length, drop}
use lib.Seq.{sets}
use Rattle.byte_put.proofs.text.Given as goal

abbrev pub invariant-loop-i : goal.invariant-loop-i
invariant-loop-i l = (sets l.fn.out l.fn.at l.fn.bytes ≡ sets l.out (l.fn.at + l.i) (drop l.i l.fn.bytes)) × (length l.out ≡ length l.fn.out)
