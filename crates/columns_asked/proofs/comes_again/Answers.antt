-- `columns_asked::comes_again` meets its contract: the codes from i on decide as all do. Assumes nothing.
use mathlib.Core.Path.{sym, ap, ◌∙◌}
use borrow.Author.Rules.{rules}
use Rattle.columns_asked.specs.Asks.{again}
use Rattle.columns_asked.proofs.Asking.{rest_all, again_here, again_next, again_end}
use Rattle.columns_asked.proofs.comes_again.Goals as goal

pub returns-then-is_among : goal.returns-then-is_among
returns-then-is_among c =
    let a = c.args in
    again_here a.codes.now a.n c.loop-i.i _ c.code_at.ensures _ c.is_among.ensures (search rules) c.if-is_among.true ∙ c.loop-i.invariant

pub loop-i-preserved : goal.loop-i-preserved
loop-i-preserved c =
    let a = c.args in
    sym (again_next a.codes.now a.n c.loop-i.i _ c.code_at.ensures _ c.is_among.ensures (search rules) c.if-is_among.false) ∙ c.loop-i.invariant

pub returns : goal.returns
returns c =
    let a = c.args in
    again_end a.codes.now a.n c.loop-i.i (search rules) ∙ c.loop-i.invariant

pub loop-i-init : goal.loop-i-init
loop-i-init c = ap again (rest_all _ _)
