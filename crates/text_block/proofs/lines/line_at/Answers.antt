-- `text_block::lines::line_at` meets its contract: the part of the file between the two places, where they are places of it. Assumes nothing.
use mathlib.Core.Path.{◌∙◌}
use Rattle.text_pieces.proofs.Parts.{part_got}
use Rattle.text_block.proofs.Laws.{stands}
use Rattle.text_block.proofs.lines.line_at.Goals as goal

pub returns : goal.returns
returns c = part_got _ _ _ _ _ c.get.ensures.lookup c.unwrap_or_default.ensures ∙ stands _ _ _ _ _ _ c.entry-start.ensures c.end_of-end.ensures
