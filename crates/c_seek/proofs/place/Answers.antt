-- `place` meets its contract: the entries that are left decide as all do. Assumes nothing.
use mathlib.Core.Path.{refl, ◌∙◌}
use native.Mathlib.Omega.{arith}
use Rattle.c_seek.proofs.Turns.{place_here, place_next, place_none}
use Rattle.c_seek.proofs.place.Goals as goal

pub loop-left-init : goal.loop-left-init
loop-left-init c = (c.requires.0, c.requires.1, refl)

pub returns-then-list-at : goal.returns-then-list-at
returns-then-list-at c =
    let k = c.loop-left in
    place_here k.left _ k.at _ c.loop-left-test.true c.if-list-at.true ∙ k.invariant.2

pub loop-left-preserved : goal.loop-left-preserved
loop-left-preserved c =
    let k = c.loop-left in
    (omega (arith, k.invariant.0, c.loop-left-test.true), k.invariant.1, place_next k.left _ k.at _ c.loop-left-test.true c.if-list-at.false ∙ k.invariant.2)

pub returns : goal.returns
returns c =
    let k = c.loop-left in
    place_none k.left _ k.at _ c.loop-left-test.false ∙ k.invariant.2
