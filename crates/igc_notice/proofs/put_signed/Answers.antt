-- `igc_notice::put_signed` meets its contract. Assumes nothing.
use borrow.Author.Rules.{rules}
use Rattle.rules.specs.Choice.{bytes}
use Rattle.igc_notice.proofs.Laws.{is_signed, not_signed}
use Rattle.igc_notice.proofs.put_signed.Goals as goal

pub returns-then-signed : goal.returns-then-signed
unfolding bytes
returns-then-signed c = search (is_signed, rules)

pub returns : goal.returns
unfolding bytes
returns c = search (not_signed, rules)
