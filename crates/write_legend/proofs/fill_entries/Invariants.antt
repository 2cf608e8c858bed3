-- `write_legend::fill_entries` meets its contract: what stands there after i turns are the first i entries. Assumes nothing.
use lib.ListN.{take}
use Rattle.rules.specs.Layouts.{entries_of}
use Rattle.rules.specs.Writes.{entry_texts}
use Rattle.byte_put.specs.Puts.{Fills}
use Rattle.write_legend.proofs.fill_entries.Given as goal

abbrev pub invariant-loop-i : goal.invariant-loop-i
invariant-loop-i l = Fills l.initial.out 3 (entry_texts (take l.i (entries_of l.l))) l.out
