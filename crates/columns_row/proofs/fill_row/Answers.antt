-- `columns_row::fill_row` meets its contract: what is left to be put from each column on is the whole row. Assumes nothing.
use native.Mathlib.Omega.{arith}
use mir.Syntax.{w64}
use mir.Facts.{to_z-of_z}
use borrow.Author.Rules.{rules}
use Rattle.columns_row.proofs.Rows.{puts_first, puts_next, puts_last}
use Rattle.columns_row.proofs.fill_row.Goals as goal

pub loop-i-preserved : goal.loop-i-preserved
loop-i-preserved c =
    let l = c.loop-i in
    let a = c.args in
    puts_next a.line.now a.places.now a.n a.list.now a.at l.list l.i l.invariant (omega arith) _ _ _ c.text_of.ensures c.number_of-z.ensures
    (to_z-of_z {w = w64} (record { sfits = c.struct_told-1.given.0.1 }))

pub returns : goal.returns
returns c = puts_last _ _ _ _ _ _ _ c.loop-i.invariant (search rules)

pub loop-i-init : goal.loop-i-init
loop-i-init c = puts_first _ _ _ _ _
