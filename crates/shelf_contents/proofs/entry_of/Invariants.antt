-- `shelf_contents::entry_of` meets its contract: the entries from n on decide as all do. Assumes nothing.
use Prim.Native.Nat.{ℕ, ◌-◌}
use mathlib.Core.Bool.{Bool}
use mathlib.Core.List.{List}
use mathlib.Core.Path.{◌≡◌}
use lib.Dec.{eqb}
use Rattle.shelf_rules.specs.Ranges.{least}
use Rattle.shelf_rules.specs.Contents.{number_of}
use Rattle.shelf_rules.specs.Shelf.{entry_of}
use Rattle.shelf_contents.proofs.entry_of.Given as goal

abbrev pub has : List ℕ → ℕ → ℕ → Bool
has b number n = eqb (number_of b n) number

abbrev pub invariant-loop-n : goal.invariant-loop-n
invariant-loop-n l = least (has l.b l.number) l.n (64 - l.n) ≡ entry_of l.b l.number
