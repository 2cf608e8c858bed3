-- `layout_fitting::again` meets its contract: the entries from j on decide as all behind the entry do. Assumes nothing.
use mathlib.Core.Path.{◌≡◌, refl, sym, ◌∙◌}
use borrow.Author.Rules.{rules}
use borrow.Author.Tests.{eq-eqb, ne_eqb}
use lib.ListN.{length}
use Rattle.layout_coded.proofs.Turns.{unmapped, entry_hit, entry_miss, entry_past, entry_end}
use Rattle.layout_fitting.proofs.Laws.{coded, spanned, code_found, code_missed}
use Rattle.layout_fitting.proofs.again.Goals as goal

pub loop-j-init : goal.loop-j-init
loop-j-init c = refl

pub returns-then-es-j : goal.returns-then-es-j
returns-then-es-j c =
    code_missed _ _ _ (sym c.loop-j.invariant ∙ entry_past (coded _) spanned _ c.loop-j.j c.if-es-j.true)

pub returns-then-es-j-2 : goal.returns-then-es-j-2
returns-then-es-j-2 c =
    code_found _ _ _ _ (sym c.loop-j.invariant ∙ entry_hit (coded _) spanned _ c.loop-j.j (let long : length c.args.es.entries ≡ 13 = search unmapped in long) (search rules) c.if-es-j.false (eq-eqb _ _ c.if-es-j-2.true))

pub loop-j-preserved : goal.loop-j-preserved
loop-j-preserved c =
    sym (entry_miss (coded _) spanned _ c.loop-j.j (let long : length c.args.es.entries ≡ 13 = search unmapped in long) (search rules) c.if-es-j.false (ne_eqb _ _ c.if-es-j-2.false)) ∙ c.loop-j.invariant

pub returns : goal.returns
returns c =
    code_missed _ _ _ (sym c.loop-j.invariant ∙ entry_end (coded _) spanned c.args.es c.loop-j.j (let long : length c.args.es.entries ≡ 13 = search unmapped in long) c.loop-j-test.false)
