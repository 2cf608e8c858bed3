-- `text_calendar::length_of` meets its contract. Assumes nothing.
use borrow.Author.Rules.{rules}
use mathlib.Core.Path.{◌∙◌}
use Rattle.text_calendar.proofs.Laws.{length_again}
use Rattle.text_calendar.proofs.length_of.Goals as goal

pub returns : goal.returns
returns c = c.days_of.ensures ∙ length_again _ _
