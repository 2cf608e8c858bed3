-- `text_block::lines::put_columns` meets its contract: what is put so far are the lines of the entries so far. Assumes nothing.
use lib.ListN.{take}
use Rattle.text_pieces.specs.Buffer.{PiecePut}
use Rattle.text_block.specs.Blocks.{column_lines}
use Rattle.text_block.proofs.lines.put_columns.Given as goal

abbrev pub invariant-loop-e : goal.invariant-loop-e
invariant-loop-e l = PiecePut l.initial.out l.at (column_lines l.line (take l.e-index l.entries)) l.next l.out
