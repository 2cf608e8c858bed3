-- `layout::values::rest_unused` meets its contract: the entries from i on decide as all behind the count do. Assumes nothing.
use Prim.Native.Nat.{◌+◌, ◌-◌}
use mathlib.Core.Path.{◌≡◌, sym, ◌∙◌}
use native.Mathlib.Omega.{arith}
use borrow.Author.Rules.{rules}
use borrow.Author.Tests.{not-true, not-false}
use lib.ListN.{length}
use Rattle.rules.specs.Choice.{leads}
use Rattle.rules.specs.Layouts.{unused, is_unused}
use Rattle.byte_chars.proofs.Laws.{leads_more, leads_other}
use Rattle.layout_coded.proofs.Turns.{unmapped}
use Rattle.layout.proofs.values.rest_unused.Goals as goal

pub returns-then-not-is_unused : goal.returns-then-not-is_unused
returns-then-not-is_unused c =
    let e = (let long : length c.args.l.entries ≡ 13 = search unmapped in long) in
    sym (leads_other is_unused _ unused c.loop-i.i _ (search rules) (omega arith) (sym c.is_unused.ensures ∙ not-true _ c.if-not-is_unused.true-raw)) ∙ c.loop-i.invariant

pub loop-i-preserved : goal.loop-i-preserved
loop-i-preserved c =
    let e = (let long : length c.args.l.entries ≡ 13 = search unmapped in long) in
    let left : 13 - (c.loop-i.i + 1) ≡ 13 - c.loop-i.i - 1 = omega arith in
    rw left (sym (leads_more is_unused _ unused c.loop-i.i _ (search rules) (omega arith) (sym c.is_unused.ensures ∙ not-false _ c.if-not-is_unused.false-raw)) ∙ c.loop-i.invariant)

pub returns : goal.returns
unfolding leads
returns c =
    let k = c.loop-i in
    let none : 13 - k.i ≡ 0 = omega arith in
    rw none at k.invariant
