-- `shelf_gap::blocker` meets its contract: the entries from n on decide as all do. Assumes nothing.
use Prim.Native.Nat.{ℕ, ◌+◌, ◌-◌}
use mathlib.Core.Bool.{Bool, not}
use mathlib.Core.List.{List}
use mathlib.Core.Path.{◌≡◌, refl, sym, ap, ◌∙◌}
use native.Mathlib.Omega.{arith}
use Rattle.shelf_rules.specs.Contents.{slot_of, clear}
use Rattle.shelf_rules.specs.Shelf.{blocker_of}
use Rattle.shelf_rules.specs.declared.Slot.{Slot}
use Rattle.shelf_rules.proofs.Ranges.{least_hit, least_miss, least_over}
use Rattle.shelf_gap.proofs.blocker.Invariants.{blocks}
use Rattle.shelf_gap.proofs.blocker.Goals as goal

clear_is : (b : List ℕ) (size at n : ℕ) (s : Slot) (r : Bool) → s ≡ slot_of b n → r ≡ clear at (at + size) s.start (s.start + s.size) → not r ≡ blocks b size at n
clear_is b size at n s r e f = ap not (f ∙ ap (λ (t : Slot). clear at (at + size) t.start (t.start + t.size)) e)

pub loop-n-init : goal.loop-n-init
unfolding blocker_of
loop-n-init c = refl

pub returns-then-not-is_clear : goal.returns-then-not-is_clear
returns-then-not-is_clear c =
    let l = c.loop-n in
    let e = clear_is _ _ _ l.n _ _ c.slot_at.ensures c.is_clear.ensures in
    sym (least_hit (blocks _ _ _) l.n _ (omega arith) (sym e ∙ c.if-not-is_clear.true-raw)) ∙ l.invariant

pub loop-n-preserved : goal.loop-n-preserved
loop-n-preserved c =
    let l = c.loop-n in
    let e = clear_is _ _ _ l.n _ _ c.slot_at.ensures c.is_clear.ensures in
    let z : 64 - (l.n + 1) ≡ 64 - l.n - 1 = omega arith in
    rw z (sym (least_miss (blocks _ _ _) l.n _ (omega arith) (sym e ∙ c.if-not-is_clear.false-raw)) ∙ l.invariant)

pub returns : goal.returns
returns c =
    let l = c.loop-n in
    sym (least_over (blocks _ _ _) l.n _ (λ u p q. absurd (omega arith))) ∙ l.invariant
