-- `line_finer::finer_of` meets its contract: what the entries from i on tell of the three codes, which are those of the rules. Assumes nothing.
use mathlib.Core.Path.{◌≡◌}
use Rattle.line_finer.proofs.Laws.{reach_from}
use Rattle.line_finer.proofs.finer_of.Given as goal

abbrev pub invariant-loop-i : goal.invariant-loop-i
invariant-loop-i l =
    (l.time ≡ reach_from l.layout l.tds l.i) × (l.lat ≡ reach_from l.layout l.lad l.i) × (l.lon ≡ reach_from l.layout l.lod l.i)
