-- `shelf_gap::place_for` meets its contract: the search from `at` on decides as the whole search. Assumes nothing.
use Rattle.std.specs.Prelude.{Some}
use Prim.Native.Nat.{ℕ, ◌+◌, ◌-◌, ◌<◌}
use mathlib.Core.List.{List}
use mathlib.Core.Path.{◌≡◌, refl, sym, ap, ◌∙◌}
use native.Mathlib.Omega.{arith}
use lib.ListN.{length}
use Rattle.shelf_rules.specs.Ranges.{least}
use Rattle.shelf_rules.specs.Contents.{slot_of, end_of}
use Rattle.shelf_rules.specs.Shelf.{fits, blocker_of, place_for}
use Rattle.shelf_rules.specs.declared.Slot.{Slot}
use Rattle.shelf_rules.proofs.Places.{blocks, place_turn, place_here, place_over, place_end}
use Rattle.shelf_gap.proofs.place_for.Goals as goal

end_is : (b : List ℕ) (n : ℕ) (s : Slot) → s ≡ slot_of b n → s.start + s.size ≡ end_of b n
end_is b n s e = ap (λ (t : Slot). t.start + t.size) e

-- the end of a body in the way lies further on
further : (b : List ℕ) (size at n : ℕ) (s : Slot) → blocker_of b size at ≡ Some n → s ≡ slot_of b n → at < s.start + s.size
further b size at n s e f = rw (end_is b n s f) (blocks b size at n e).high

turned : (b : List ℕ) (size at n : ℕ) (s : Slot) → blocker_of b size at ≡ Some n → s ≡ slot_of b n
    → least (fits b size) at (length b - at) ≡ least (fits b size) (s.start + s.size) (length b - (s.start + s.size))
turned b size at n s e f = rw (end_is b n s f) (place_turn b size at n e)

pub loop-at-init : goal.loop-at-init
unfolding place_for
loop-at-init c = refl

pub returns-then-b-at : goal.returns-then-b-at
returns-then-b-at c =
    let l = c.loop-at in
    sym (place_over _ _ l.at (omega arith)) ∙ l.invariant

pub loop-at-smaller : goal.loop-at-smaller
loop-at-smaller c =
    let l = c.loop-at in
    let e = sym c.blocker.ensures ∙ c.in-Some.is in
    let f = further _ _ l.at _ _ e c.slot_at-s.ensures in
    omega (arith, f)

pub loop-at-preserved : goal.loop-at-preserved
loop-at-preserved c =
    let l = c.loop-at in
    let e = sym c.blocker.ensures ∙ c.in-Some.is in
    sym (turned _ _ l.at _ _ e c.slot_at-s.ensures) ∙ l.invariant

pub returns-in_default : goal.returns-in_default
returns-in_default c =
    let l = c.loop-at in
    sym (place_here _ _ l.at (omega arith) (omega arith) (sym c.blocker.ensures ∙ c.in_default.is)) ∙ l.invariant

pub returns : goal.returns
returns c =
    let l = c.loop-at in
    sym (place_end _ _ l.at (omega arith)) ∙ l.invariant
