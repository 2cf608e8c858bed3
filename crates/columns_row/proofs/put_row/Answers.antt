-- `columns_row::put_row` meets its contract. Assumes nothing.
use native.Mathlib.Omega.{arith}
use borrow.Author.Rules.{rules}
use Rattle.columns_row.proofs.Rows.{put_length, row_past, row_there}
use Rattle.columns_row.proofs.put_row.Goals as goal
use Rattle.columns_row.proofs.put_row.Goals.{then-list-n-via-then-list-n, then-list-n-via-else-list-n+then-list-n-2}

pub returns-then-list-n : goal.returns-then-list-n
returns-then-list-n c =
    elim c.then-list-n.branch [
      | then-list-n-via-then-list-n w ↦ row_past _ c.args.places.now _ c.args.list.now (omega arith)
      | then-list-n-via-else-list-n+then-list-n-2 w ↦ row_past _ c.args.places.now _ c.args.list.now (omega arith)
    ]

pub fill_row-requires : goal.fill_row-requires
fill_row-requires c = (omega arith, omega arith)

pub shape_of-list : goal.shape_of-list
shape_of-list c = search (put_length, rules)

pub returns : goal.returns
returns c = let a = c.args in row_there _ a.places.now _ a.list.now (omega arith) (omega arith) _ c.fill_row.ensures
