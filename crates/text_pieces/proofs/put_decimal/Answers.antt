-- `text_pieces::put_decimal` meets its contract: the digits put so far stand behind those of what is left of the number. Assumes nothing.
use Prim.Native.Nat.{◌+◌, ◌-◌, ◌<◌}
use mathlib.Core.List.{append-nil}
use mathlib.Core.Path.{◌≡◌, refl, sym, ◌∙◌}
use native.Mathlib.Omega.{arith}
use lib.ListN.{drop, set, length-set, length-drop}
use lib.Seq.{take_all}
use Rattle.rules.specs.Listing.{decimal}
use Rattle.text_pieces.proofs.Laws.{digit_more, digit_first, tenth_before}
use Rattle.text_pieces.proofs.put_decimal.Goals as goal

pub loop-i-init : goal.loop-i-init
unfolding decimal
loop-i-init c = (omega arith, refl, omega arith, refl, sym (append-nil _))

pub loop-i-preserved : goal.loop-i-preserved
loop-i-preserved c =
    let l = c.loop-i in
    let e = l.invariant.1 in (
      omega arith,
      simp length-set e,
      tenth_before l.digits l.i l.x (omega arith) (omega (arith, e)) l.invariant.2,
      l.invariant.3,
      l.invariant.4 ∙ digit_more l.digits l.i l.x (omega arith) (omega (arith, e)) (omega arith),
    )

pub returns-then-x-lt10 : goal.returns-then-x-lt10
returns-then-x-lt10 c =
    let l = c.loop-i in
    let e = l.invariant.1 in
    let all = take_all (20 - (l.i - 1)) (drop (l.i - 1) (set l.digits (l.i - 1) (48 + l.x))) (simp (length-drop, length-set) (omega (arith, e))) in
    rw (l.invariant.4, digit_first l.digits l.i l.x (omega arith) (omega (arith, e)) (omega arith)) (rw (all, l.invariant.3) at c.put_text.ensures)

pub returns : goal.returns
returns c =
    let l = c.loop-i in
    let one : l.i ≡ 1 = omega arith in
    let few : l.x < 10 = rw one at l.invariant.2 in
    rw (l.invariant.4, digit_first l.digits l.i l.x (omega arith) (omega (arith, l.invariant.1)) few, one) (rw l.invariant.3 at c.put_text-2.ensures)
