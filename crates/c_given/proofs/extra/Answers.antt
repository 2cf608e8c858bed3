-- `extra` meets its contract: each way out is a way through `extra_by`. Assumes nothing.
use borrow.Author.Rules.{rules}
use Rattle.rules.specs.Reads.{extra_reading_told}
use Rattle.c_given.specs.Given.{extra_by}
use Rattle.c_given.proofs.Layouts.{extra_is, extra_is_not, extra_none}
use Rattle.c_given.proofs.extra.Goals as goal

pub returns-in_default : goal.returns-in_default
unfolding extra_by extra_reading_told
returns-in_default c = rw (extra_none _ _ c.family.ensures c.in_default.is)

pub returns-in_default-f : goal.returns-in_default-f
unfolding extra_by extra_reading_told
returns-in_default-f c =
    rw (extra_is_not _ _ c.family.ensures _ c.in-Some.is c.in_default-f.is)

pub returns : goal.returns
unfolding extra_by
returns c =
    rw (extra_is _ _ c.family.ensures _ _ c.in-Some.is c.in-Extra.is) c.extra_with.ensures
