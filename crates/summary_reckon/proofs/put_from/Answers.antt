-- `summary_reckon::put_from` meets its contract. Assumes nothing.
use borrow.Author.Rules.{rules}
use Rattle.summary_reckon.proofs.Turning.{run_kept, run_put_lem}
use Rattle.summary_reckon.proofs.put_from.Goals as goal

pub returns-then-keep-k : goal.returns-then-keep-k
returns-then-keep-k c = search (run_put_lem, rules)

pub returns-else-keep-k : goal.returns-else-keep-k
returns-else-keep-k c = search (run_kept, rules)
