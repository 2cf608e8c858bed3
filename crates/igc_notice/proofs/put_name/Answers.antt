-- `igc_notice::put_name` meets its contract. Assumes nothing.
use borrow.Author.Rules.{rules}
use Rattle.rules.specs.Choice.{bytes}
use Rattle.igc_notice.proofs.Laws.{no_name, some_name}
use Rattle.igc_notice.proofs.put_name.Goals as goal

pub returns-then-name-eq0 : goal.returns-then-name-eq0
unfolding bytes
returns-then-name-eq0 c = search (no_name, rules)

pub returns : goal.returns
unfolding bytes
returns c = search (some_name, rules)
