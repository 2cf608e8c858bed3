-- `layout_column::keeps` meets its contract. Assumes nothing.
use mathlib.Core.Path.{◌∙◌, ap}
use Rattle.rules.specs.Listed.{keeps_limit}
use Rattle.layout_column.proofs.keeps.Goals as goal

pub returns : goal.returns
returns c = c.keeps_limit.ensures ∙ ap (keeps_limit _ _) c.text_of.ensures
