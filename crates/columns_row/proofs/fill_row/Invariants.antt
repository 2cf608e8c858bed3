-- `columns_row::fill_row` meets its contract: what is left to be put from each column on is the whole row. Assumes nothing.
use Rattle.columns_row.proofs.Rows.{Puts}
use Rattle.columns_row.proofs.fill_row.Given as goal

abbrev pub invariant-loop-i : goal.invariant-loop-i
invariant-loop-i l = Puts l.line l.places l.n l.initial.list l.at l.list l.i
