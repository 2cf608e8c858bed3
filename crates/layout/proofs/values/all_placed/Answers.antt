-- `layout::values::all_placed` meets its contract: the entries from i on, behind those before them, decide as all do. Assumes nothing.
use Prim.Native.Nat.{◌+◌}
use mathlib.Core.Path.{sym, ◌∙◌, ap}
use borrow.Author.Rules.{rules}
use borrow.Author.Tests.{not-true, not-false}
use Rattle.layout_coded.proofs.Turns.{unmapped}
use Rattle.layout.proofs.Turns.{place_more, place_stop, place_end}
use Rattle.layout.proofs.values.all_placed.Goals as goal

pub loop-i-init : goal.loop-i-init
loop-i-init c = let e = c.empty_layout-before.ensures in (ap (λ l. l.count) e, rw e)

pub returns-then-not-follows : goal.returns-then-not-follows
returns-then-not-follows c =
    let k = c.loop-i in
    sym (place_stop c.args.l k.i k.start k.before (search unmapped) (search rules) (search rules) (sym c.follows.ensures ∙ not-true _ c.if-not-follows.true-raw)) ∙ k.invariant.1

pub loop-i-preserved : goal.loop-i-preserved
loop-i-preserved c =
    let k = c.loop-i in
    let turn = place_more c.args.l k.i k.start k.before (search unmapped) (search rules) (search rules) (sym c.follows.ensures ∙ not-false _ c.if-not-follows.false-raw) in
    (ap (λ l. l.count) c.with_entry-before.ensures ∙ ap (λ n. n + 1) k.invariant.0, rw c.with_entry-before.ensures (sym turn ∙ k.invariant.1))

pub returns : goal.returns
returns c =
    let k = c.loop-i in
    sym (place_end c.args.l k.i k.start k.before (search rules)) ∙ k.invariant.1
