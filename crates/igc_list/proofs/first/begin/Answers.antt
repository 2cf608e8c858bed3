-- `igc_list::first::begin` meets its contract: the first line is that of the check's answer. Assumes nothing.
use borrow.Author.Rules.{rules}
use Rattle.igc_list.proofs.Laws.{over_most, began_ok, began_refused}
use Rattle.igc_list.proofs.first.begin.Goals as goal
use Rattle.igc_list.proofs.first.begin.Goals.{in-Err, in-Ok}

pub returns-then-most-file : goal.returns-then-most-file
returns-then-most-file c = search (over_most, rules)

pub returns : goal.returns
returns c =
    let low = c.if-most-file.false in
    let told = c.check-checked.ensures in
    elim c.match-checked.branch [
      | in-Err w ↦ rw (w.count-is, w.out-is) (began_refused _ _ _ _ _ _ _ _ _ low told _ w.in-Err.is w.refused-count.ensures)
      | in-Ok w ↦ rw (w.count-is, w.out-is) (began_ok _ _ _ _ _ _ _ _ _ low told w.in-Ok.is w.ok-count.ensures)
    ]
