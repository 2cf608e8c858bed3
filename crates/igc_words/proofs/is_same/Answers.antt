-- `igc_words::is_same` meets its contract. Assumes nothing.
use Rattle.std.proofs.Common.{◌∙◌}
use Rattle.igc_words.proofs.Laws.{same_items}
use Rattle.igc_words.proofs.is_same.Goals as goal

pub returns : goal.returns
returns c = c.eq.ensures ∙ same_items _ _
