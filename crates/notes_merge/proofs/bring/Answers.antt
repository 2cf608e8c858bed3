-- `notes_merge::bring` meets its contract: the files are not the same up to their last G lines; the merged file is too long, or has no room; or it is there. Assumes nothing.
use borrow.Author.Rules.{rules}
use Rattle.notes_merge.proofs.Merging.{not_same, bring_long, bring_short, bring_room, bring_whole}
use Rattle.notes_merge.proofs.bring.Goals as goal

pub returns-in_default : goal.returns-in_default
returns-in_default c = not_same _ _ _ c.requires.0 c.requires.1 _ _ c.alike.ensures c.in_default.is c.unplaced.ensures

pub copy_front-requires : goal.copy_front-requires
copy_front-requires c = bring_room _ _ _ c.requires.0 c.requires.1 _ _ c.alike.ensures c.in-Some.is _ _ c.behind-one.ensures c.behind-two.ensures _ _ c.weave.ensures _ c.in-Put.is

pub returns-in-TooLong : goal.returns-in-TooLong
returns-in-TooLong c = bring_long _ _ _ c.requires.0 c.requires.1 _ _ c.alike.ensures c.in-Some.is _ _ c.behind-one.ensures c.behind-two.ensures _ _ c.weave.ensures _ c.unplaced-in-TooLong.ensures c.in-TooLong.is

pub returns-in-NoRoom : goal.returns-in-NoRoom
returns-in-NoRoom c = bring_short _ _ _ c.requires.0 c.requires.1 _ _ c.alike.ensures c.in-Some.is _ _ c.behind-one.ensures c.behind-two.ensures _ _ c.weave.ensures _ c.unplaced-in-NoRoom.ensures c.in-NoRoom.is

pub returns-in-Put : goal.returns-in-Put
returns-in-Put c = bring_whole _ _ _ c.requires.0 c.requires.1 _ _ c.alike.ensures c.in-Some.is _ _ c.behind-one.ensures c.behind-two.ensures _ _ c.weave.ensures _ c.in-Put.is _ c.copy_front.ensures
