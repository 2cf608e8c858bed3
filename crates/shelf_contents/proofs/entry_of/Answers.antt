-- `shelf_contents::entry_of` meets its contract: the entries from n on decide as all do. Assumes nothing.
use Prim.Native.Nat.{ℕ, ◌+◌, ◌-◌}
use mathlib.Core.List.{List}
use mathlib.Core.Path.{◌≡◌, refl, sym, ap, ◌∙◌}
use native.Mathlib.Omega.{arith}
use borrow.Author.Tests.{eq-eqb, ne_eqb}
use Rattle.shelf_rules.specs.Contents.{number_of, slot_of}
use Rattle.shelf_rules.specs.Shelf.{entry_of}
use Rattle.shelf_rules.specs.declared.Slot.{Slot}
use Rattle.shelf_rules.proofs.Ranges.{least_hit, least_miss, least_over}
use Rattle.shelf_contents.proofs.entry_of.Invariants.{has}
use Rattle.shelf_contents.proofs.entry_of.Goals as goal

number_is : (b : List ℕ) (n : ℕ) (s : Slot) → s ≡ slot_of b n → s.number ≡ number_of b n
number_is b n s e = ap (λ (t : Slot). t.number) e

pub loop-n-init : goal.loop-n-init
unfolding entry_of
loop-n-init c = refl

pub returns-then-slot_at-number : goal.returns-then-slot_at-number
returns-then-slot_at-number c =
    let l = c.loop-n in
    let e = number_is _ l.n _ c.slot_at.ensures in
    sym (least_hit (has _ _) l.n _ (omega arith) (eq-eqb _ _ (sym e ∙ c.if-slot_at-number.true))) ∙ l.invariant

pub loop-n-preserved : goal.loop-n-preserved
loop-n-preserved c =
    let l = c.loop-n in
    let e = number_is _ l.n _ c.slot_at.ensures in
    let z : 64 - (l.n + 1) ≡ 64 - l.n - 1 = omega arith in
    rw z (sym (least_miss (has _ _) l.n _ (omega arith) (ne_eqb _ _ (λ g. c.if-slot_at-number.false (e ∙ g)))) ∙ l.invariant)

pub returns : goal.returns
returns c =
    let l = c.loop-n in
    sym (least_over (has _ _) l.n _ (λ u p q. absurd (omega arith))) ∙ l.invariant
