-- `write_limits::tails::keeps_all` meets its contract: the entries from i on decide as all do. Assumes nothing.
use mathlib.Core.Bool.{not}
use mathlib.Core.Path.{◌≡◌, refl, sym, ◌∙◌, ap}
use borrow.Author.Rules.{rules}
use lib.ListN.{length}
use Rattle.layout_coded.proofs.Turns.{unmapped, entry_hit, entry_miss, entry_past, entry_end}
use Rattle.rules.specs.Limits.{bad_tail}
use Rattle.write_limits.proofs.Laws.{none_breaks, one_breaks}
use Rattle.write_limits.proofs.tails.keeps_all.Invariants.{breaking, first}
use Rattle.write_limits.proofs.tails.keeps_all.Goals as goal

pub loop-i-init : goal.loop-i-init
unfolding bad_tail
loop-i-init c = refl

pub returns-then-l-i : goal.returns-then-l-i
returns-then-l-i c =
    none_breaks _ (sym c.loop-i.invariant ∙ entry_past (breaking _ _ _) first _ c.loop-i.i c.if-l-i.true)

pub returns-then-not-keeps : goal.returns-then-not-keeps
returns-then-not-keeps c =
    one_breaks _ _
    (sym c.loop-i.invariant ∙ entry_hit (breaking _ _ _) first _ c.loop-i.i (let long : length c.args.l.entries ≡ 13 = search unmapped in long) (search rules) c.if-l-i.false (ap not (sym c.keeps.ensures) ∙ c.if-not-keeps.true-raw))

pub loop-i-preserved : goal.loop-i-preserved
loop-i-preserved c =
    sym (entry_miss (breaking _ _ _) first _ c.loop-i.i (let long : length c.args.l.entries ≡ 13 = search unmapped in long) (search rules) c.if-l-i.false (ap not (sym c.keeps.ensures) ∙ c.if-not-keeps.false-raw)) ∙ c.loop-i.invariant

pub returns : goal.returns
returns c =
    none_breaks _ (sym c.loop-i.invariant ∙ entry_end (breaking _ _ _) first c.args.l c.loop-i.i (let long : length c.args.l.entries ≡ 13 = search unmapped in long) c.loop-i-test.false)
