-- `layout_fitting::are_inside` meets its contract: the entries from i on decide as all do. Assumes nothing.
use mathlib.Core.Path.{◌≡◌}
use lib.ListN.{drop}
use Rattle.rules.specs.Choice.{first_of}
use Rattle.rules.specs.Layouts.{entries_of}
use Rattle.layout_fitting.proofs.Laws.{outside, placed}
use Rattle.layout_fitting.proofs.are_inside.Given as goal

abbrev pub invariant-loop-i : goal.invariant-loop-i
invariant-loop-i l = (first_of (outside l.bytes) placed (drop l.i (entries_of l.fn.es)) l.i ≡ first_of (outside l.bytes) placed (entries_of l.fn.es) 0)
