-- `write_limits::tails::keeps_all` meets its contract: the entries from i on decide as all do. Assumes nothing.
use Prim.Native.Nat.{ℕ, ◌-◌, ◌+◌}
use mathlib.Core.Bool.{Bool, not}
use mathlib.Core.List.{List}
use mathlib.Core.Path.{◌≡◌}
use lib.ListN.{drop}
use Rattle.rules.specs.Choice.{first_of, part}
use Rattle.rules.specs.Listed.{keeps_limit}
use Rattle.rules.specs.Layouts.{entries_of}
use Rattle.rules.specs.declared.AtLimit.{AtLimit}
use Rattle.rules.specs.declared.Entry.{Entry}
use Rattle.rules.specs.Limits.{bad_tail}
use Rattle.write_limits.proofs.tails.keeps_all.Given as goal

abbrev pub breaking : AtLimit → ℕ → List ℕ → Entry → Bool
breaking at start tail e = not (keeps_limit at e.code (part (e.first - start) (e.last + 1 - start) tail))

abbrev pub first : ℕ → Entry → ℕ
first k e = e.first

abbrev pub invariant-loop-i : goal.invariant-loop-i
invariant-loop-i l = first_of (breaking l.at l.start l.tail) first (drop l.i (entries_of l.l)) l.i ≡ bad_tail l.at l.start l.tail l.l
