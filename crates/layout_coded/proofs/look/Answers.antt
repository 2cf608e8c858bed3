-- `layout_coded::look` meets its contract: the entries from i on decide as all do. Assumes nothing.
use mathlib.Core.Path.{◌≡◌, refl, sym, ◌∙◌}
use borrow.Author.Rules.{rules}
use borrow.Author.Tests.{eq-eqb, ne_eqb}
use lib.ListN.{length}
use Rattle.rules.specs.Layouts.{look}
use Rattle.layout_coded.proofs.Turns.{unmapped, entry_hit, entry_miss, entry_past, entry_end}
use Rattle.layout_coded.proofs.look.Invariants.{coded, span}
use Rattle.layout_coded.proofs.look.Goals as goal

pub loop-i-init : goal.loop-i-init
unfolding look
loop-i-init c = refl

pub returns-then-l-i : goal.returns-then-l-i
returns-then-l-i c =
    sym (entry_past (coded _) span _ c.loop-i.i c.if-l-i.true) ∙ c.loop-i.invariant

pub returns-then-e-code : goal.returns-then-e-code
returns-then-e-code c =
    sym (entry_hit (coded _) span _ c.loop-i.i (let long : length c.args.l.entries ≡ 13 = search unmapped in long) (search rules) c.if-l-i.false (eq-eqb _ _ c.if-e-code.true)) ∙ c.loop-i.invariant

pub loop-i-preserved : goal.loop-i-preserved
loop-i-preserved c =
    sym (entry_miss (coded _) span _ c.loop-i.i (let long : length c.args.l.entries ≡ 13 = search unmapped in long) (search rules) c.if-l-i.false (ne_eqb _ _ c.if-e-code.false)) ∙ c.loop-i.invariant

pub returns : goal.returns
returns c =
    sym (entry_end (coded _) span c.args.l c.loop-i.i (let long : length c.args.l.entries ≡ 13 = search unmapped in long) c.loop-i-test.false) ∙ c.loop-i.invariant
