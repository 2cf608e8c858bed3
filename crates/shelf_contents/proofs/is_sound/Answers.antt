-- `shelf_contents::is_sound` meets its contract: the entries below n are sound. Assumes nothing.
use mathlib.Core.Path.{◌≡◌, sym}
use native.Mathlib.Omega.{arith}
use borrow.Author.Tests.{le-leb}
use lib.ListN.{length}
use Rattle.shelf_rules.specs.Contents.{slot_sound, sound}
use Rattle.shelf_rules.proofs.Tests.{tests, and_yes, not_not, not_so}
use Rattle.shelf_rules.proofs.Ranges.{every_none, every_next, every_not}
use borrow.Author.Rules.{rules}
use Rattle.shelf_contents.proofs.is_sound.Goals as goal

pub returns-then-b-lt768 : goal.returns-then-b-lt768
unfolding sound
returns-then-b-lt768 c = search (tests, rules) depth 8

pub loop-n-init : goal.loop-n-init
loop-n-init c = every_none _

pub returns-then-not-slot_sound : goal.returns-then-not-slot_sound
unfolding sound
returns-then-not-slot_sound c =
    let l = c.loop-n in
    let b = length c.args.b.now in
    and_yes _ _ _ (le-leb 768 b (omega arith)) (and_yes _ _ _ (le-leb b 16777216 (omega arith))
    (sym (every_not (slot_sound _) 64 l.n (omega arith) (not_not _ _ c.slot_sound.ensures c.if-not-slot_sound.true-raw))))

pub loop-n-preserved : goal.loop-n-preserved
loop-n-preserved c =
    let l = c.loop-n in
    every_next (slot_sound _) l.n l.invariant (not_so _ _ c.slot_sound.ensures c.if-not-slot_sound.false-raw)

pub returns : goal.returns
unfolding sound
returns c =
    let l = c.loop-n in
    let z : l.n ≡ 64 = omega arith in
    let b = length c.args.b.now in
    and_yes _ _ _ (le-leb 768 b (omega arith)) (and_yes _ _ _ (le-leb b 16777216 (omega arith)) (sym (rw z at l.invariant)))
