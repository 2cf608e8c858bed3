-- `layout` meets its contract. Assumes nothing.
use borrow.Author.Rules.{rules}
use Rattle.c_given_write.specs.Written.{layout_written, layout_text_by}
use Rattle.c_given_write.proofs.Laws.{told_refused, told_then, family_refused, family_then}
use Rattle.c_given_write.proofs.layout.Goals as goal

pub returns-in_default : goal.returns-in_default
unfolding layout_written layout_text_by
returns-in_default c = family_refused _ _ c.layout_family.ensures _ _ _ _ c.in_default.is

pub returns-in_default-layout_of : goal.returns-in_default-layout_of
unfolding layout_written layout_text_by
returns-in_default-layout_of c =
    family_then _ _ c.layout_family.ensures _ _ _ _ _ _ _ c.in-Some.is
    (told_refused _ _ _ _ _ _ c.layout_of.ensures _ c.in_default-layout_of.is _)

pub returns : goal.returns
unfolding layout_written layout_text_by
returns c =
    family_then _ _ c.layout_family.ensures _ _ _ _ _ _ _ c.in-Some.is
    (told_then _ _ _ _ _ _ c.layout_of.ensures _ c.in-Ok.is _ _ c.layout.ensures)
