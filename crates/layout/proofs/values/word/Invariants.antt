-- `layout::values::word` meets its contract: the bits from the number n on, the highest first. Assumes nothing.
use mathlib.Core.Path.{◌≡◌}
use lib.ListN.{drop}
use Rattle.rules.specs.Listed.{listed}
use Rattle.rules_values.proofs.Presence.{horner}
use Rattle.layout.proofs.values.word.Given as goal

abbrev pub invariant-loop-n : goal.invariant-loop-n
invariant-loop-n l = l.word ≡ horner l.l (drop l.n listed)
