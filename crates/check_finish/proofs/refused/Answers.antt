-- `check_finish::refused` meets its contract. Assumes nothing.
use mathlib.Core.Path.{refl}
use borrow.Author.Rules.{rules}
use Rattle.rules.specs.Refusals.{result_told}
use Rattle.check_finish.proofs.refused.Goals as goal

pub returns : goal.returns
unfolding result_told
returns c = record { answer = refl; flight = c.no_flight.ensures }
