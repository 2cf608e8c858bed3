-- `kinds::letters` meets its contract: the letters from each line on give the whole list, and the G lines from there on decide where the notes begin. Assumes nothing.
use Prim.Native.Nat.{◌-◌}
use mathlib.Core.Logic.{inl, inr}
use native.Mathlib.Omega.{arith}
use borrow.Author.Rules.{rules}
use lib.ListN.{length}
use Rattle.file_lines.proofs.Cuts as cuts
use Rattle.kinds.proofs.Putting.{Putting, putting_first, ended_so, put_fits, putting_either, letters_unsealed, letters_sealed}
use Rattle.kinds.proofs.letters.Goals.{then-letter-eq71, else-letter-eq71}
use Rattle.kinds.proofs.letters.Goals as goal

pub loop-at-init : goal.loop-at-init
loop-at-init c = putting_first c.args.file.now c.args.sizes c.args.list.now c.requires.0 c.requires.1

pub bounds-list-put : goal.bounds-list-put
bounds-list-put c =
    let a = c.args in
    let q = ended_so a.file.now a.sizes a.list.now c.loop-at.list c.loop-at.at c.loop-at.put c.loop-at.last c.loop-at.invariant (omega arith) _ c.end_of-end.ensures in
    put_fits a.file.now a.sizes a.list.now c.loop-at.list c.loop-at.at c.loop-at.put c.loop-at.last c.loop-at.invariant _ q

pub overflow_add-put : goal.overflow_add-put
overflow_add-put c =
    let a = c.args in
    let q = ended_so a.file.now a.sizes a.list.now c.loop-at.list c.loop-at.at c.loop-at.put c.loop-at.last c.loop-at.invariant (omega arith) _ c.end_of-end.ensures in
    let h = put_fits a.file.now a.sizes a.list.now c.loop-at.list c.loop-at.at c.loop-at.put c.loop-at.last c.loop-at.invariant _ q in
    omega (arith, h, c.loop-at.invariant.long)

pub overflow_add-at : goal.overflow_add-at
overflow_add-at c =
    let a = c.args in
    let q = ended_so a.file.now a.sizes a.list.now c.loop-at.list c.loop-at.at c.loop-at.put c.loop-at.last c.loop-at.invariant (omega arith) _ c.end_of-end.ensures in
    omega (arith, (cuts.cut _ _ _ q).fits)

pub loop-at-smaller : goal.loop-at-smaller
loop-at-smaller c =
    let a = c.args in
    let q = ended_so a.file.now a.sizes a.list.now c.loop-at.list c.loop-at.at c.loop-at.put c.loop-at.last c.loop-at.invariant (omega arith) _ c.end_of-end.ensures in
    let h = cuts.cut _ _ _ q in
    omega (arith, h.start, h.fits)

pub loop-at-preserved : goal.loop-at-preserved
loop-at-preserved c =
    let a = c.args in
    let q = ended_so a.file.now a.sizes a.list.now c.loop-at.list c.loop-at.at c.loop-at.put c.loop-at.last c.loop-at.invariant (omega arith) _ c.end_of-end.ensures in
    putting_either a.file.now a.sizes a.list.now c.loop-at.list c.loop-at.at c.loop-at.put c.loop-at.last c.loop-at.invariant _ q _ (λ x. x) (λ x. x) (elim c.if-letter-eq71.branch [ then-letter-eq71 w ↦ inl (w.if-letter-eq71.true, w.last-is) | else-letter-eq71 w ↦ inr (w.if-letter-eq71.false, w.last-is) ])

pub returns-then-last-eq0 : goal.returns-then-last-eq0
returns-then-last-eq0 c =
    let a = c.args in
    letters_unsealed a.file.now a.sizes a.list.now c.loop-at.list c.loop-at.at c.loop-at.put c.loop-at.last c.loop-at.invariant (omega arith) c.if-last-eq0.true

pub returns : goal.returns
returns c =
    let a = c.args in
    letters_sealed a.file.now a.sizes a.list.now c.loop-at.list c.loop-at.at c.loop-at.put c.loop-at.last c.loop-at.invariant (omega arith) c.if-last-eq0.false

pub shape_of-list-then-last-eq0 : goal.shape_of-list-then-last-eq0
shape_of-list-then-last-eq0 c = c.loop-at.invariant.long

pub shape_of-list : goal.shape_of-list
shape_of-list c = c.loop-at.invariant.long
