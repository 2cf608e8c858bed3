-- `check_sure::pattern` meets its contract: what is left to put behind the entries so far gives the whole pattern. Assumes nothing.
use mathlib.Core.Path.{◌≡◌, refl, sym, ◌∙◌}
use lib.ListN.{length}
use Rattle.layout_coded.proofs.Turns.{unmapped}
use Rattle.check_sure.proofs.Laws.{pattern_turn, pattern_past, pattern_end}
use borrow.Author.Rules.{rules}
use Rattle.check_sure.proofs.pattern.Goals as goal

pub returns-then-n-i : goal.returns-then-n-i
returns-then-n-i c = sym (pattern_past c.args.layout c.loop-i.i c.loop-i.p c.if-n-i.true) ∙ c.loop-i.invariant

pub loop-i-preserved : goal.loop-i-preserved
loop-i-preserved c =
    let long : length c.args.layout.entries ≡ 13 = search unmapped in
    pattern_turn c.args.layout c.loop-i.i c.loop-i.p long (search rules) c.if-n-i.false _ _ _ refl refl c.rule_of.ensures ∙ c.loop-i.invariant

pub returns : goal.returns
returns c =
    let long : length c.args.layout.entries ≡ 13 = search unmapped in
    sym (pattern_end c.args.layout c.loop-i.i c.loop-i.p long (search rules)) ∙ c.loop-i.invariant
