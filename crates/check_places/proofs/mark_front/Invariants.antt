-- `check_places::mark_front` meets its contract: what is left to put from here on gives the whole. Assumes nothing.
use Rattle.std.proofs.Common.{◌≡◌, length, drop}
use lib.Seq.{sets}
use Rattle.check_places.proofs.mark_front.Given as goal

abbrev pub invariant-loop-i : goal.invariant-loop-i
invariant-loop-i l = (length l.list ≡ length l.initial.list) × (sets l.list l.i (drop l.i l.front) ≡ sets l.initial.list 0 l.front)
