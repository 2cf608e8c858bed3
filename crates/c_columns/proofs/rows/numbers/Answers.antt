-- `rows::numbers` meets its contract: there is a row, or none. Assumes nothing.
use native.Mathlib.Omega.{arith}
use borrow.Author.Rules.{rules}
use Rattle.c_columns.proofs.Laws.{row_there, row_past}
use Rattle.c_columns.proofs.rows.numbers.Goals as goal

pub returns-then-n-ge15 : goal.returns-then-n-ge15
returns-then-n-ge15 c = row_past c.args.n (omega arith) _ c.refused.ensures

pub returns : goal.returns
returns c = row_there c.args.n (omega arith) _ c.listed_at.ensures _ c.row_values.ensures
