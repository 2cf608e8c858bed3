-- `text_listing::lines::put_refusal` meets its contract. Assumes nothing.
use Rattle.rules.specs.Choice.{bytes}
use Rattle.text_pieces.proofs.Laws.{then}
use Rattle.text_listing.proofs.Laws.{refused_parts}
use Rattle.text_listing.proofs.lines.put_refusal.Goals as goal

pub returns : goal.returns
unfolding bytes
returns c = rw refused_parts (then c.put_counted-a.ensures c.put_byte.ensures)
