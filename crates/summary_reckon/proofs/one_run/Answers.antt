-- `summary_reckon::one_run` meets its contract: what is left to be joined from here is the whole run. Assumes nothing.
use borrow.Author.Rules.{rules}
use Rattle.summary_reckon.proofs.Turning.{joins_first, joins_next, joins_last}
use Rattle.summary_reckon.proofs.one_run.Goals as goal

pub loop-i-init : goal.loop-i-init
loop-i-init c = search (joins_first, rules)

pub loop-i-preserved : goal.loop-i-preserved
loop-i-preserved c = search (joins_next, rules)

pub returns : goal.returns
returns c = joins_last _ _ _ _ _ _ c.loop-i.invariant (search rules)
