-- `notes_merge::merge` meets its contract: the first file's refusal, the second's, or both are accepted. Assumes nothing.
use borrow.Author.Rules.{rules}
use Rattle.notes_merge.proofs.Merging.{accepted_is, first_refused, second_refused}
use Rattle.notes_merge.proofs.merge.Goals as goal

pub bring-requires : goal.bring-requires
bring-requires c = (accepted_is _ _ c.check_untabled-one.ensures.answer c.in-Ok.is, accepted_is _ _ c.check_untabled-two.ensures.answer c.in-Ok-also.is)

pub returns-in-Err : goal.returns-in-Err
returns-in-Err c = first_refused _ _ _ _ _ c.in-Err.is c.check_untabled-one.ensures.answer

pub returns-in-Err-also : goal.returns-in-Err-also
returns-in-Err-also c = second_refused _ _ _ _ _ c.in-Err-also.is (accepted_is _ _ c.check_untabled-one.ensures.answer c.in-Ok.is) c.check_untabled-two.ensures.answer
