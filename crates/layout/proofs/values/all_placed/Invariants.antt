-- `layout::values::all_placed` meets its contract: the entries from i on, behind those before them, decide as all do. Assumes nothing.
use mathlib.Core.Path.{◌≡◌}
use lib.ListN.{drop}
use Rattle.rules.specs.Layouts.{empty_layout, entries_of, all_placed}
use Rattle.layout.proofs.values.all_placed.Given as goal

abbrev pub invariant-loop-i : goal.invariant-loop-i
invariant-loop-i l = (l.before.count ≡ l.i) × (all_placed (drop l.i (entries_of l.l)) l.start l.before ≡ all_placed (entries_of l.l) l.origin empty_layout)
