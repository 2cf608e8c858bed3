-- `text_listing::lines::column_text` meets its contract. Assumes nothing.
use mathlib.Core.Path.{◌∙◌}
use Rattle.text_pieces.proofs.Parts.{part_got}
use Rattle.text_listing.proofs.Laws.{part_cut}
use Rattle.text_listing.proofs.lines.column_text.Goals as goal

pub returns : goal.returns
returns c =
    let s = c.args in
    rw (← c.saturating_sub-from.ensures)
    (part_got _ _ _ _ _ c.get.ensures.lookup c.unwrap_or_default.ensures ∙ part_cut c.saturating_sub-from.result s.e.last c.min-to.result s.line.now c.min-to.ensures)
