-- `shelf_pack::pack_sound` meets its contract: before each turn the bodies that started before `from` are packed below `at`, and all else is as it was. Assumes nothing.
use native.Mathlib.Omega.{arith}
use borrow.Author.Rules.{rules}
use Rattle.shelf_rules.proofs.Sounds.{sound_read}
use Rattle.shelf_rules.proofs.Mids.{mid_first}
use Rattle.shelf_pack.proofs.Nexts.{start_is, size_is, turn, turn_mid, turns_end}
use Rattle.shelf_pack.proofs.pack_sound.Goals as goal

pub loop-n-init : goal.loop-n-init
loop-n-init c = mid_first _ (sound_read _ c.requires)

pub shape_of-shelf : goal.shape_of-shelf
shape_of-shelf c = c.loop-n.invariant.same_length

pub returns : goal.returns
returns c =
    let l = c.loop-n in
    turns_end _ l.at l.from l.shelf _ c.requires l.invariant c.in_default.is c.next.ensures

pub move_to-s-requires : goal.move_to-s-requires
move_to-s-requires c =
    let l = c.loop-n in
    let t = turn _ l.at l.from l.shelf _ _ c.requires l.invariant c.in-Some.is c.next.ensures in
    (t.room, (t.entry, (t.order, t.inside)))

pub overflow_add-at : goal.overflow_add-at
overflow_add-at c =
    let l = c.loop-n in
    let t = turn _ l.at l.from l.shelf _ _ c.requires l.invariant c.in-Some.is c.next.ensures in
    let f = size_is _ _ _ c.move_to-s.ensures.0 in
    let g = t.order in
    let h = t.inside in
    let i = t.same_length in
    let j = t.most_room in
    search rules

pub loop-n-smaller : goal.loop-n-smaller
loop-n-smaller c =
    let l = c.loop-n in
    let t = turn _ l.at l.from l.shelf _ _ c.requires l.invariant c.in-Some.is c.next.ensures in
    let e = start_is _ _ _ c.move_to-s.ensures.0 in
    let f = size_is _ _ _ c.move_to-s.ensures.0 in
    let g = t.ahead in
    let h = t.inside in
    let i = t.same_length in
    omega arith

pub loop-n-preserved : goal.loop-n-preserved
loop-n-preserved c =
    let l = c.loop-n in
    turn_mid _ l.at l.from l.shelf _ _ c.requires l.invariant c.in-Some.is c.next.ensures _ _ c.move_to-s.ensures _ _ (omega arith) (omega arith)
