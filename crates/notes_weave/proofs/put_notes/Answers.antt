-- `notes_weave::put_notes` meets its contract: the walk, where nothing is too long. Assumes nothing.
use borrow.Author.Rules.{rules}
use Rattle.notes_weave.proofs.Turns.{put_first_long, put_second_long, put_front_long, put_walked}
use Rattle.notes_weave.proofs.put_notes.Goals as goal

pub returns-then-a-gt16777216 : goal.returns-then-a-gt16777216
returns-then-a-gt16777216 c = put_first_long _ _ _ _ (search rules)

pub returns-then-b-gt16777216 : goal.returns-then-b-gt16777216
returns-then-b-gt16777216 c = put_second_long _ _ _ _ (search rules) (search rules)

pub returns-then-from-gt16777216 : goal.returns-then-from-gt16777216
returns-then-from-gt16777216 c = put_front_long _ _ _ _ (search rules) (search rules) (search rules)

pub returns : goal.returns
returns c = put_walked _ _ _ _ (search rules) (search rules) (search rules) _ _ c.walk.ensures
