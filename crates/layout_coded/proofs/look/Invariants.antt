-- `layout_coded::look` meets its contract: the entries from i on decide as all do. Assumes nothing.
use Prim.Native.Nat.{ℕ}
use mathlib.Core.Bool.{Bool}
use mathlib.Core.Path.{◌≡◌}
use lib.Dec.{eqb}
use lib.ListN.{drop}
use Rattle.rules.specs.Choice.{first_of}
use Rattle.rules.specs.declared.Span.{Span}
use Rattle.rules.specs.Layouts.{entries_of, look}
use Rattle.rules.specs.declared.Entry.{Entry}
use Rattle.layout_coded.proofs.look.Given as goal

abbrev pub coded : ℕ → Entry → Bool
coded x e = eqb e.code x

abbrev pub span : ℕ → Entry → Span
span k e = record { first = e.first; last = e.last }

abbrev pub invariant-loop-i : goal.invariant-loop-i
invariant-loop-i l = first_of (coded l.code) span (drop l.i (entries_of l.fn.l)) l.i ≡ look l.fn.l l.code
