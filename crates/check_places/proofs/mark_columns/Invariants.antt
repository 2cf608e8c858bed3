-- `check_places::mark_columns` meets its contract: what is left to put from the column in turn on gives the whole. Assumes nothing.
use Rattle.std.proofs.Common.{◌≡◌, ◌+◌, ◌*◌, ◌≤◌, length, drop}
use lib.Seq.{sets}
use Rattle.check_places.specs.Places.{columns_marks}
use Rattle.check_places.proofs.mark_columns.Given as goal

abbrev pub invariant-loop-k : goal.invariant-loop-k
invariant-loop-k l =
    (length l.list ≡ length l.initial.list) × (l.at ≤ l.from + 256 * l.k) × (sets l.list l.at (columns_marks l.m (drop (3 * l.k) l.pattern)) ≡ sets l.initial.list l.from (columns_marks l.m l.pattern))
