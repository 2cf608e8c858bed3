-- `layout_fitting::has_twice` meets its contract: the entries from i on decide as all do. Assumes nothing.
use mathlib.Core.Path.{◌≡◌}
use lib.ListN.{drop}
use Rattle.rules.specs.Layouts.{entries_of}
use Rattle.rules.specs.Looks.{twice}
use Rattle.layout_fitting.proofs.has_twice.Given as goal

abbrev pub invariant-loop-i : goal.invariant-loop-i
invariant-loop-i l = (twice (drop l.i (entries_of l.fn.es)) ≡ twice (entries_of l.fn.es))
