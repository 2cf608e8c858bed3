-- `layout_fitting::are_inside` meets its contract: the entries from i on decide as all do. Assumes nothing.
use mathlib.Core.Bool.{not}
use mathlib.Core.Path.{◌≡◌, refl, sym, ◌∙◌, ap}
use borrow.Author.Rules.{rules}
use lib.ListN.{length}
use Rattle.layout_coded.proofs.Turns.{unmapped, entry_hit, entry_miss, entry_past, entry_end}
use Rattle.layout_fitting.proofs.Laws.{outside, placed, inside_clear, inside_bad}
use Rattle.layout_fitting.proofs.are_inside.Goals as goal

pub loop-i-init : goal.loop-i-init
loop-i-init c = refl

pub returns-then-es-i : goal.returns-then-es-i
returns-then-es-i c =
    inside_clear _ _ (sym c.loop-i.invariant ∙ entry_past (outside _) placed _ c.loop-i.i c.if-es-i.true)

pub returns-then-not-is_inside : goal.returns-then-not-is_inside
returns-then-not-is_inside c =
    inside_bad _ _ _ (sym c.loop-i.invariant ∙ entry_hit (outside _) placed _ c.loop-i.i (let long : length c.args.es.entries ≡ 13 = search unmapped in long) (search rules) c.if-es-i.false (ap not (sym c.is_inside.ensures) ∙ c.if-not-is_inside.true-raw))

pub loop-i-preserved : goal.loop-i-preserved
loop-i-preserved c =
    sym (entry_miss (outside _) placed _ c.loop-i.i (let long : length c.args.es.entries ≡ 13 = search unmapped in long) (search rules) c.if-es-i.false (ap not (sym c.is_inside.ensures) ∙ c.if-not-is_inside.false-raw)) ∙ c.loop-i.invariant

pub returns : goal.returns
returns c =
    inside_clear _ _ (sym c.loop-i.invariant ∙ entry_end (outside _) placed c.args.es c.loop-i.i (let long : length c.args.es.entries ≡ 13 = search unmapped in long) c.loop-i-test.false)
