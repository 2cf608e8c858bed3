-- `columns_row::number_of` meets its contract. Assumes nothing.
use mathlib.Core.Path.{ap, ◌∙◌}
use Rattle.columns_row.specs.Cells.{marked}
use Rattle.columns_row.proofs.Rows.{number_there}
use Rattle.columns_row.proofs.number_of.Goals as goal

pub returns : goal.returns
returns c = c.unwrap_or.ensures ∙ number_there c.whole.result ∙ ap marked c.whole.ensures
