-- `notes_fit::weave` meets its contract: each way out is a way through `woven_said`. Assumes nothing.
use mathlib.Core.Path.{refl}
use native.Mathlib.Omega.{arith}
use borrow.Author.Rules.{rules}
use Rattle.notes_weave.proofs.Turns.{walked_put}
use Rattle.notes_fit.proofs.Answer.{long_first, long_second, long_both, all_fit, no_room, all_put}
use Rattle.notes_fit.proofs.weave.Goals as goal

pub returns-then-a-gt16777216 : goal.returns-then-a-gt16777216
returns-then-a-gt16777216 c = long_first _ _ _ _ (search rules)

pub returns-then-b-gt16777216 : goal.returns-then-b-gt16777216
returns-then-b-gt16777216 c = long_second _ _ _ _ (search rules) (search rules)

pub returns-then-front-gt16777216 : goal.returns-then-front-gt16777216
returns-then-front-gt16777216 c = long_both _ _ _ _ (search rules) (search rules) (omega arith)

pub shape_of-out-then-has_room : goal.shape_of-out-then-has_room
shape_of-out-then-has_room c = (walked_put _ _ _ _ (search rules) (search rules) (search rules) _ _ c.put_notes.ensures).fills.size

pub returns-then-has_room : goal.returns-then-has_room
returns-then-has_room c = all_fit _ _ _ _ (search rules) (search rules) _ refl _ c.has_room.ensures c.if-has_room.true _ _ (walked_put _ _ _ _ (search rules) (search rules) (search rules) _ _ c.put_notes.ensures)

pub returns-then-n-gt16777216 : goal.returns-then-n-gt16777216
returns-then-n-gt16777216 c = long_both _ _ _ _ (search rules) (search rules) (omega (arith, (walked_put _ _ _ _ (search rules) (search rules) (search rules) _ _ c.put_notes-n.ensures).is))

pub returns-then-out-n : goal.returns-then-out-n
returns-then-out-n c = no_room _ _ _ _ (search rules) (search rules) _ (walked_put _ _ _ _ (search rules) (search rules) (search rules) _ _ c.put_notes-n.ensures).is (search rules) (search rules)

pub shape_of-out : goal.shape_of-out
shape_of-out c = (walked_put _ _ _ _ (search rules) (search rules) (search rules) _ _ c.put_notes-2.ensures).fills.size

pub returns : goal.returns
returns c = all_put _ _ _ _ (search rules) (search rules) _ (walked_put _ _ _ _ (search rules) (search rules) (search rules) _ _ c.put_notes-n.ensures).is (search rules) (search rules) _ _ (walked_put _ _ _ _ (search rules) (search rules) (search rules) _ _ c.put_notes-2.ensures)
