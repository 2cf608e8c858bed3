-- `layout_codes::listed_at` meets its contract: the table is the list of the listed codes, row for row. Assumes nothing.
use mathlib.Core.Path.{sym, ◌∙◌}
use lib.ListN.{get_or-eq_default}
use Rattle.rules.specs.Choice.{bytes}
use Rattle.rules.specs.Listed.{listed, unlisted}
use Rattle.layout_codes.proofs.Rows.{row_at}
use Rattle.layout_codes.proofs.listed_at.Goals as goal

pub returns-then-n-lt15 : goal.returns-then-n-lt15
unfolding bytes listed
returns-then-n-lt15 c = c.listed_in.ensures ∙ row_at c.args.n

pub returns-else-n-lt15 : goal.returns-else-n-lt15
unfolding bytes listed
returns-else-n-lt15 c = sym (get_or-eq_default listed unlisted c.if-n-lt15.false)
