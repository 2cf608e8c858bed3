-- `layout_column::columns` meets its contract: the entries from i on decide as all do. Assumes nothing.
use mathlib.Core.Bool.{not}
use mathlib.Core.Path.{◌≡◌, refl, sym, ◌∙◌, ap}
use lib.ListN.{length}
use Rattle.rules.specs.Layouts.{bad_column}
use Rattle.rules.specs.Refusals.{result_told}
use Rattle.layout_column.proofs.Laws.{columns_clear, columns_bad}
use Rattle.layout_coded.proofs.Turns.{unmapped, entry_hit, entry_miss, entry_past, entry_end}
use borrow.Author.Rules.{rules}
use Rattle.layout_column.proofs.columns.Invariants.{bad, place}
use Rattle.layout_column.proofs.columns.Goals as goal

pub loop-i-init : goal.loop-i-init
unfolding bad_column
loop-i-init c = refl

pub returns-then-layout-i : goal.returns-then-layout-i
unfolding result_told
returns-then-layout-i c =
    columns_clear _ _ _ (sym c.loop-i.invariant ∙ entry_past (bad _ _) place _ c.loop-i.i c.if-layout-i.true)

pub returns-then-not-keeps : goal.returns-then-not-keeps
unfolding result_told
returns-then-not-keeps c =
    columns_bad _ _ _ _ (sym c.loop-i.invariant ∙ entry_hit (bad _ _) place _ c.loop-i.i (let long : length c.args.layout.entries ≡ 13 = search unmapped in long) (search rules) c.if-layout-i.false (ap not (sym c.keeps.ensures) ∙ c.if-not-keeps.true-raw))

pub loop-i-preserved : goal.loop-i-preserved
loop-i-preserved c =
    sym (entry_miss (bad _ _) place _ c.loop-i.i (let long : length c.args.layout.entries ≡ 13 = search unmapped in long) (search rules) c.if-layout-i.false (ap not (sym c.keeps.ensures) ∙ c.if-not-keeps.false-raw)) ∙ c.loop-i.invariant

pub returns : goal.returns
unfolding result_told
returns c =
    columns_clear _ _ _ (sym c.loop-i.invariant ∙ entry_end (bad _ _) place c.args.layout c.loop-i.i (let long : length c.args.layout.entries ≡ 13 = search unmapped in long) c.loop-i-test.false)
