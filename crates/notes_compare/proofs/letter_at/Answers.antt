-- `notes_compare::letter_at` meets its contract: the text goes on, or has ended. Assumes nothing.
use mathlib.Core.Path.{sym, ◌∙◌}
use Rattle.notes_compare.proofs.Letters.{in_inside, letter_more, letter_end}
use Rattle.notes_compare.proofs.letter_at.Goals as goal

pub bounds-s-i : goal.bounds-s-i
bounds-s-i c = in_inside _ _ (sym c.in_text.ensures ∙ c.if-in_text.true)

pub returns-then-in_text : goal.returns-then-in_text
returns-then-in_text c = letter_more _ _ _ c.in_text.ensures c.if-in_text.true

pub returns-else-in_text : goal.returns-else-in_text
returns-else-in_text c = letter_end _ _ _ c.in_text.ensures c.if-in_text.false
