-- `put_extra` meets its contract: each way out is a way through `kind_written`. Assumes nothing.
use borrow.Author.Rules.{rules}
use Rattle.c_given.proofs.Layouts.{extra_is, extra_is_not, extra_none}
use Rattle.c_given_write.proofs.Laws.{some_written, none_written}
use Rattle.c_writers.specs.Calls.{kind_written, kind_text}
use Rattle.c_writers.proofs.put_extra.Goals as goal

pub returns-in_default : goal.returns-in_default
unfolding kind_written kind_text
returns-in_default c = none_written _ _ _ _ _ (extra_none _ _ c.family.ensures c.in_default.is)

pub returns-in_default-f : goal.returns-in_default-f
unfolding kind_written kind_text
returns-in_default-f c = none_written _ _ _ _ _ (extra_is_not _ _ c.family.ensures _ c.in-Some.is c.in_default-f.is)

pub returns : goal.returns
unfolding kind_written kind_text
returns c =
    some_written _ _ _ _ _ _ _ _ (extra_is _ _ c.family.ensures _ _ c.in-Some.is c.in-Extra.is) c.extra.ensures
