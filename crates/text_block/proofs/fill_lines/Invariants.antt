-- `text_block::fill_lines` meets its contract: at each line what is put is the front of the page, and what comes is the rest of it. Assumes nothing.
use Prim.Native.Nat.{◌-◌, ◌≤◌, max}
use lib.ListN.{length}
use Rattle.text_block.specs.Blocks.{leaf_from}
use Rattle.text_block.proofs.Laws.{Part}
use Rattle.text_block.proofs.fill_lines.Given as goal

abbrev pub invariant-loop-next : goal.invariant-loop-next
invariant-loop-next l = record {
  low : l.next ≤ max l.passed l.lines;
  part :
      Part l.initial.block (leaf_from l.file l.table l.lines l.layout (length l.initial.block) (l.lines - l.passed) l.passed 0)
      (leaf_from l.file l.table l.lines l.layout (length l.initial.block) (l.lines - l.next) l.next l.used)
      l.used
      l.block;
}
