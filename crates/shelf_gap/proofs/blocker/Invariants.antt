-- `shelf_gap::blocker` meets its contract: the entries from n on decide as all do. Assumes nothing.
use Prim.Native.Nat.{ℕ, ◌-◌}
use mathlib.Core.Bool.{Bool, not}
use mathlib.Core.List.{List}
use mathlib.Core.Path.{◌≡◌}
use Rattle.shelf_rules.specs.Ranges.{least}
use Rattle.shelf_rules.specs.Shelf.{clear_of, blocker_of}
use Rattle.shelf_gap.proofs.blocker.Given as goal

abbrev pub blocks : List ℕ → ℕ → ℕ → ℕ → Bool
blocks b size at n = not (clear_of b size at n)

abbrev pub invariant-loop-n : goal.invariant-loop-n
invariant-loop-n l = least (blocks l.b l.size l.at) l.n (64 - l.n) ≡ blocker_of l.b l.size l.at
