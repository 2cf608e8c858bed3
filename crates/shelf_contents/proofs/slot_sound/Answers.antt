-- `shelf_contents::slot_sound` meets its contract: the entries below m are kept beside entry n. Assumes nothing.
use Prim.Native.Nat.{ℕ}
use mathlib.Core.Bool.{Bool}
use mathlib.Core.List.{List}
use mathlib.Core.Path.{◌≡◌, refl, sym}
use native.Mathlib.Omega.{arith}
use lib.ListN.{length}
use Rattle.shelf_rules.specs.Contents.{one_kept, two_kept, slot_of, pair_kept, slot_sound}
use Rattle.shelf_rules.specs.declared.Slot.{Slot}
use Rattle.shelf_rules.proofs.Tests.{and_yes, and_no, not_not, not_so}
use Rattle.shelf_rules.proofs.Ranges.{every_none, every_next, every_not}
use Rattle.shelf_contents.proofs.slot_sound.Goals as goal

-- what a test of slots said, of the buffer
one : (b : List ℕ) (n : ℕ) (s : Slot) (r : Bool) → s ≡ slot_of b n → r ≡ one_kept (length b) s → r ≡ one_kept (length b) (slot_of b n)
one b n s r e f = rw (← e) f

two : (b : List ℕ) (n m : ℕ) (s t : Slot) (r : Bool) → s ≡ slot_of b n → t ≡ slot_of b m → r ≡ two_kept s t → r ≡ pair_kept b n m
two b n m s t r e g f = rw (← e, ← g) f

pub returns-then-not-one_kept : goal.returns-then-not-one_kept
unfolding slot_sound
returns-then-not-one_kept c = and_no _ _ _ (not_not _ _ (one _ _ _ _ c.slot_at-s.ensures c.one_kept.ensures) c.if-not-one_kept.true-raw) refl

pub loop-m-init : goal.loop-m-init
loop-m-init c = every_none _

pub returns-then-not-two_kept : goal.returns-then-not-two_kept
unfolding slot_sound
returns-then-not-two_kept c =
    let l = c.loop-m in
    and_yes _ _ _ (not_so _ _ (one _ _ _ _ c.slot_at-s.ensures c.one_kept.ensures) c.if-not-one_kept.false-raw) (sym (every_not (pair_kept _ _) _ l.m (omega arith)
    (not_not _ _ (two _ _ _ _ _ _ c.slot_at-s.ensures c.slot_at.ensures c.two_kept.ensures) c.if-not-two_kept.true-raw)))

pub loop-m-preserved : goal.loop-m-preserved
loop-m-preserved c =
    let l = c.loop-m in
    every_next (pair_kept _ _) l.m l.invariant
    (not_so _ _ (two _ _ _ _ _ _ c.slot_at-s.ensures c.slot_at.ensures c.two_kept.ensures) c.if-not-two_kept.false-raw)

pub returns : goal.returns
unfolding slot_sound
returns c =
    let l = c.loop-m in
    let z : l.m ≡ c.args.n = omega arith in
    and_yes _ _ _ (not_so _ _ (one _ _ _ _ c.slot_at-s.ensures c.one_kept.ensures) c.if-not-one_kept.false-raw) (sym (rw z at l.invariant))
