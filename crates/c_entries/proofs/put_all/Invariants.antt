-- `put_all` meets its contract: the numbers of the entries before the one in hand are stored. Assumes nothing.
use Rattle.std.proofs.Common.{◌≡◌, ◌+◌, ◌*◌, length, take}
use Rattle.c_entries.specs.Lent.{entries_size, entry_numbers}
use Rattle.c_entries.proofs.put_all.Given as goal

abbrev pub invariant-loop-i : goal.invariant-loop-i
invariant-loop-i l = (length l.list ≡ entries_size) × (take (3 * l.i + 1) l.list ≡ take (3 * l.i + 1) (entry_numbers l.fn.es))
