-- `byte_put::digits` meets its contract: what is left to put from here is the whole answer. Assumes nothing.
use Rattle.std.proofs.Common.{arith, refl, sym, ◌∙◌, ◌≡◌}
use borrow.Author.Tests.{ltb-true, ltb-false}
use Rattle.byte_put.proofs.digits.Goals.{then-out-at-via-then-out-at, then-out-at-via-else-out-at+then-out-at-2}
use Rattle.rules.proofs.Texts.{digits_length}
use Rattle.byte_put.proofs.Laws.{sets_none, sets_step, put_there, put_past}
use Rattle.byte_put.proofs.digits.Goals as goal

pub returns-then-out-at : goal.returns-then-out-at
returns-then-out-at c = elim c.then-out-at.branch [ then-out-at-via-then-out-at w ↦ put_past _ _ _ _ _ (digits_length _ _) (omega arith) refl | then-out-at-via-else-out-at+then-out-at-2 w ↦ put_past _ _ _ _ _ (digits_length _ _) (omega (arith, ltb-true)) refl ]

pub loop-i-init : goal.loop-i-init
loop-i-init c = refl

pub loop-i-preserved : goal.loop-i-preserved
loop-i-preserved c = c.loop-i.invariant ∙ sets_step c.loop-i.out _ c.loop-i.i c.loop-i.x c.loop-i-test.true

pub returns : goal.returns
returns c =
    let l = c.loop-i in
    let z : l.i ≡ 0 = omega arith in
    put_there _ _ _ _ _ (digits_length _ _) (omega (arith, ltb-false))
    (record { is = λ g. sym (rw z at l.invariant ∙ sets_none l.out _ l.x) })
