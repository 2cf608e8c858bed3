-- `fits` meets its contract: the entries that are left decide as all do. Assumes nothing.
use mathlib.Core.Path.{refl, sym, ◌∙◌}
use native.Mathlib.Omega.{arith}
use borrow.Author.Tests.{not-true, not-false}
use Rattle.c_seek.proofs.Turns.{fit_outside, fit_again, fit_next, fit_done}
use Rattle.c_seek.proofs.fits.Goals as goal

pub loop-left-init : goal.loop-left-init
loop-left-init c = let p = c.requires in (omega (arith, p.0), p.1, refl)

pub returns-then-not-stands : goal.returns-then-not-stands
returns-then-not-stands c =
    let k = c.loop-left in
    fit_outside k.left _ k.at _ c.loop-left-test.true (sym c.stands.ensures ∙ not-true _ c.if-not-stands.true-raw) ∙ k.invariant.2

pub returns-then-is_in : goal.returns-then-is_in
returns-then-is_in c =
    let k = c.loop-left in
    let f = c.if-not-stands.false-raw in
    fit_again k.left _ k.at _ c.loop-left-test.true (sym c.stands.ensures ∙ not-false _ f) (sym c.is_in.ensures ∙ c.if-is_in.true) ∙ k.invariant.2

pub loop-left-preserved : goal.loop-left-preserved
loop-left-preserved c =
    let k = c.loop-left in
    let f = c.if-not-stands.false-raw in
    let t = c.loop-left-test.true in
    (omega (arith, k.invariant.0, t), k.invariant.1, fit_next k.left _ k.at _ t (sym c.stands.ensures ∙ not-false _ f) (sym c.is_in.ensures ∙ c.if-is_in.false) ∙ k.invariant.2)

pub returns : goal.returns
returns c =
    let k = c.loop-left in
    fit_done k.left _ k.at _ c.loop-left-test.false ∙ k.invariant.2
