-- `columns_asked::spots_of` meets its contract: what is left to be put from each code on gives all places. Assumes nothing.
use borrow.Author.Rules.{rules}
use Rattle.columns_asked.proofs.Asking.{spotting_first, spotting_none, spotting_next, spotting_last}
use Rattle.columns_asked.proofs.spots_of.Goals as goal

pub returns-in_default : goal.returns-in_default
returns-in_default c =
    let a = c.args in
    spotting_none a.codes.now a.n a.layout c.loop-i.spots c.loop-i.i c.loop-i.invariant _ c.code_at.ensures (search rules) _ c.look.ensures c.in_default.is _ c.refused.ensures

pub loop-i-preserved : goal.loop-i-preserved
loop-i-preserved c =
    let a = c.args in
    spotting_next a.codes.now a.n a.layout c.loop-i.spots c.loop-i.i c.loop-i.invariant _ c.code_at.ensures (search rules) _ c.look.ensures _ _ c.in-Some.is

pub returns : goal.returns
returns c = spotting_last _ _ _ _ _ c.loop-i.invariant (search rules)

pub loop-i-init : goal.loop-i-init
loop-i-init c = spotting_first _ _ _
