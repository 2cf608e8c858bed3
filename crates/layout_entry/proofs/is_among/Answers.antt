-- `layout_entry::is_among` meets its contract: the codes from i on decide as all do. Assumes nothing.
use mathlib.Core.Path.{sym, ◌∙◌}
use borrow.Author.Rules.{rules}
use Rattle.layout_entry.proofs.Turns.{code_hit, code_miss, code_past, code_end}
use Rattle.layout_entry.proofs.is_among.Goals as goal

pub returns-then-n-i : goal.returns-then-n-i
returns-then-n-i c =
    let b = c.args in
    sym (code_past b.codes.now b.n b.code c.loop-i.i c.if-n-i.true) ∙ c.loop-i.invariant

pub returns-then-c-code : goal.returns-then-c-code
returns-then-c-code c =
    let b = c.args in
    sym (code_hit b.codes.now b.n b.code c.loop-i.i (search rules) (search rules) c.if-c-code.true) ∙ c.loop-i.invariant

pub loop-i-preserved : goal.loop-i-preserved
loop-i-preserved c =
    let b = c.args in
    sym (code_miss b.codes.now b.n b.code c.loop-i.i (search rules) (search rules) c.if-c-code.false) ∙ c.loop-i.invariant

pub returns : goal.returns
returns c =
    let b = c.args in
    sym (code_end b.codes.now b.n b.code c.loop-i.i c.loop-i-test.false) ∙ c.loop-i.invariant
