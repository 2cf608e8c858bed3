-- `igc_notice::refused` meets its contract. Assumes nothing.
use borrow.Author.Rules.{rules}
use Rattle.rules.specs.Choice.{bytes}
use Rattle.text_pieces.proofs.Laws.{then}
use Rattle.text_pieces.proofs.Callers.{shown_fits, shown_counts, shown_text}
use Rattle.igc_notice.proofs.refused.Goals as goal

pub returns : goal.returns
unfolding bytes
returns c = then c.put_name-a.ensures (then c.put_text-b.ensures (rw (shown_text c.refused-n.ensures) at c.put_text.ensures))
