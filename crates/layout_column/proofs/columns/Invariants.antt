-- `layout_column::columns` meets its contract: the entries from i on decide as all do. Assumes nothing.
use Prim.Native.Nat.{ℕ}
use mathlib.Core.Bool.{Bool, not}
use mathlib.Core.List.{List}
use mathlib.Core.Path.{◌≡◌}
use lib.ListN.{drop}
use Rattle.rules.specs.Choice.{first_of}
use Rattle.rules.specs.Layouts.{entries_of, span_of, column_text, bad_column}
use Rattle.rules.specs.Listed.{keeps_limit}
use Rattle.rules.specs.declared.AtLimit.{AtLimit}
use Rattle.rules.specs.declared.Entry.{Entry}
use Rattle.layout_column.proofs.columns.Given as goal

abbrev pub bad : AtLimit → List ℕ → Entry → Bool
bad at l e = not (keeps_limit at e.code (column_text l (span_of e)))

abbrev pub place : ℕ → Entry → ℕ
place k e = e.first

abbrev pub invariant-loop-i : goal.invariant-loop-i
invariant-loop-i l = first_of (bad l.at l.line) place (drop l.i (entries_of l.fn.layout)) l.i ≡ bad_column l.at l.line l.fn.layout
