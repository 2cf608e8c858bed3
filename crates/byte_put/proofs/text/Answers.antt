-- `byte_put::text` meets its contract: what is left to put from here is the whole answer. Assumes nothing.
use mathlib.Core.Path.{◌≡◌, refl, sym, ◌∙◌}
use borrow.Author.Tests.{ltb-true, ltb-false}
use native.Mathlib.Nat.{add-zero}
use native.Mathlib.Omega.{arith}
use lib.ListN.{length, length-set}
use Rattle.byte_put.proofs.text.Goals.{then-out-at-via-then-out-at, then-out-at-via-else-out-at+then-out-at-2}
use Rattle.byte_put.proofs.Laws.{sets_more, sets_over, put_there, put_past}
use Rattle.byte_put.proofs.text.Goals as goal

pub returns-then-out-at : goal.returns-then-out-at
returns-then-out-at c = elim c.then-out-at.branch [ then-out-at-via-then-out-at w ↦ put_past _ _ _ _ _ refl (omega arith) refl | then-out-at-via-else-out-at+then-out-at-2 w ↦ put_past _ _ _ _ _ refl (omega (arith, ltb-true)) refl ]

pub loop-i-init : goal.loop-i-init
loop-i-init c = (rw add-zero refl, refl)

pub loop-i-preserved : goal.loop-i-preserved
loop-i-preserved c =
    let l = c.loop-i in (l.invariant.0 ∙ sets_more l.out _ _ l.i (omega arith), simp length-set l.invariant.1)

pub returns : goal.returns
returns c =
    let l = c.loop-i in put_there _ _ _ _ _ refl (omega (arith, ltb-false)) (record { is = λ g. sym (l.invariant.0 ∙ sets_over l.out _ _ l.i (omega arith)) })
