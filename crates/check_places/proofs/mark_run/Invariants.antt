-- `check_places::mark_run` meets its contract: what is left to put from here on gives the whole. Assumes nothing.
use Rattle.std.proofs.Common.{◌≡◌, ◌+◌, ◌-◌, length, replicate}
use lib.Seq.{sets}
use Rattle.check_places.proofs.mark_run.Given as goal

abbrev pub invariant-loop-i : goal.invariant-loop-i
invariant-loop-i l = (length l.list ≡ length l.initial.list) × (sets l.list (l.at + l.i) (replicate (l.n - l.i) l.v) ≡ sets l.initial.list l.at (replicate l.n l.v))
