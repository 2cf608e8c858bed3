-- `text_block::lines::put_columns` meets its contract: what is put so far are the lines of the entries so far. Assumes nothing.
use mathlib.Core.Path.{◌≡◌}
use lib.ListN.{length, take}
use lib.Seq.{take_all}
use Rattle.rules.specs.Layouts.{entries_of}
use Rattle.rules_values.proofs.Laws.{unmapped}
use Rattle.text_block.proofs.Laws.{no_columns_lem, column_more, all_slots}
use Rattle.text_block.proofs.lines.put_columns.Goals as goal

pub loop-e-init : goal.loop-e-init
loop-e-init c = no_columns_lem _ _ _

pub loop-e-preserved : goal.loop-e-preserved
loop-e-preserved c = column_more _ _ _ (take c.min.result c.args.layout.entries) _ _ _ _ _ c.loop-e-test.true c.loop-e.invariant c.put_column-next.ensures

pub returns : goal.returns
returns c =
    let slots : length c.args.layout.entries ≡ 13 = search unmapped in
    let all : take c.min.result c.args.layout.entries ≡ entries_of c.args.layout = rw c.min.ensures (all_slots c.args.layout slots) in
    rw (← all, ← take_all c.loop-e.e-index (take c.min.result c.args.layout.entries) c.loop-e-test.false) c.loop-e.invariant
