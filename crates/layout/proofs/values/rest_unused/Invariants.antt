-- `layout::values::rest_unused` meets its contract: the entries from i on decide as all behind the count do. Assumes nothing.
use Prim.Native.Nat.{◌-◌}
use mathlib.Core.Path.{◌≡◌}
use lib.ListN.{drop}
use Rattle.rules.specs.Choice.{leads}
use Rattle.rules.specs.Layouts.{is_unused}
use Rattle.layout.proofs.values.rest_unused.Given as goal

abbrev pub invariant-loop-i : goal.invariant-loop-i
invariant-loop-i l = leads is_unused (13 - l.i) (drop l.i l.l.entries) ≡ leads is_unused (13 - l.l.count) (drop l.l.count l.l.entries)
