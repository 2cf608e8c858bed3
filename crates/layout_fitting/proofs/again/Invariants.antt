-- `layout_fitting::again` meets its contract: the entries from j on decide as all behind the entry do. Assumes nothing.
use Prim.Native.Nat.{◌+◌}
use mathlib.Core.Path.{◌≡◌}
use lib.ListN.{drop}
use Rattle.rules.specs.Choice.{first_of}
use Rattle.rules.specs.Layouts.{entries_of}
use Rattle.layout_fitting.proofs.Laws.{coded, spanned}
use Rattle.layout_fitting.proofs.again.Given as goal

abbrev pub invariant-loop-j : goal.invariant-loop-j
invariant-loop-j l =
    (first_of (coded l.code) spanned (drop l.j (entries_of l.es)) l.j ≡ first_of (coded l.code) spanned (drop (l.i + 1) (entries_of l.es)) (l.i + 1))
