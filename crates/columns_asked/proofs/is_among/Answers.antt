-- `columns_asked::is_among` meets its contract: the codes from j on decide as all from i on do. Assumes nothing.
use mathlib.Core.Path.{sym, ◌∙◌}
use borrow.Author.Rules.{rules}
use Rattle.columns_asked.proofs.Asking.{among_here, among_next, among_end}
use Rattle.columns_asked.proofs.is_among.Goals as goal

pub returns-then-code_at-x : goal.returns-then-code_at-x
returns-then-code_at-x c =
    let a = c.args in
    among_here a.codes.now a.n c.loop-j.j a.x _ c.code_at.ensures (search rules) c.if-code_at-x.true ∙ c.loop-j.invariant

pub loop-j-preserved : goal.loop-j-preserved
loop-j-preserved c =
    let a = c.args in
    sym (among_next a.codes.now a.n c.loop-j.j a.x _ c.code_at.ensures (search rules) c.if-code_at-x.false) ∙ c.loop-j.invariant

pub returns : goal.returns
returns c =
    let a = c.args in
    among_end a.codes.now a.n c.loop-j.j a.x (search rules) ∙ c.loop-j.invariant
