-- `layout_fitting::has_twice` meets its contract: the entries from i on decide as all do. Assumes nothing.
use mathlib.Core.Path.{◌≡◌, sym, ◌∙◌}
use borrow.Author.Rules.{rules}
use lib.ListN.{length}
use Rattle.layout_coded.proofs.Turns.{unmapped}
use Rattle.layout_fitting.proofs.Laws.{twice_here, twice_next, twice_past, twice_end}
use Rattle.layout_fitting.proofs.has_twice.Goals as goal

pub returns-then-es-i : goal.returns-then-es-i
returns-then-es-i c =
    sym (twice_past _ c.loop-i.i c.if-es-i.true) ∙ c.loop-i.invariant

pub returns-then-again : goal.returns-then-again
returns-then-again c =
    sym (twice_here _ c.loop-i.i (let long : length c.args.es.entries ≡ 13 = search unmapped in long) (search rules) c.if-es-i.false (sym c.again.ensures ∙ c.if-again.true)) ∙ c.loop-i.invariant

pub loop-i-preserved : goal.loop-i-preserved
loop-i-preserved c =
    sym (twice_next _ c.loop-i.i (let long : length c.args.es.entries ≡ 13 = search unmapped in long) (search rules) c.if-es-i.false (sym c.again.ensures ∙ c.if-again.false)) ∙ c.loop-i.invariant

pub returns : goal.returns
returns c =
    sym (twice_end c.args.es c.loop-i.i (let long : length c.args.es.entries ≡ 13 = search unmapped in long) c.loop-i-test.false) ∙ c.loop-i.invariant
