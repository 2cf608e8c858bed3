-- `track_step::time_on` meets its contract. Assumes nothing.
use borrow.Author.Rules.{rules}
use borrow.Author.Tests.{not-true, not-false}
use Rattle.track_step.proofs.Laws.{time_nowhere, time_there}
use Rattle.track_step.proofs.time_on.Goals as goal

pub returns-then-not-is_timed : goal.returns-then-not-is_timed
returns-then-not-is_timed c = search (time_nowhere, not-true, not-false, rules) depth 16

pub returns : goal.returns
returns c = search (time_there, not-true, not-false, rules) depth 16
