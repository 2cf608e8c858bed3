-- `text_listing::lines::put_fix` meets its contract. Assumes nothing.
use Rattle.text_listing.specs.Lines.{fix_heights, heights_line}
use Rattle.text_pieces.proofs.Laws.{then}
use Rattle.text_listing.proofs.Laws.{fix_parts}
use Rattle.text_listing.proofs.lines.put_fix.Goals as goal

pub returns : goal.returns
unfolding fix_heights heights_line
returns c = rw fix_parts (then c.put_places-a.ensures c.put_heights.ensures)
