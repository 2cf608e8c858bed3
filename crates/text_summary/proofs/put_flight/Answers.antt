-- `text_summary::put_flight` meets its contract. Assumes nothing.
use borrow.Author.Rules.{rules}
use Rattle.rules.specs.Choice.{bytes}
use Rattle.text_pieces.proofs.Laws.{then}
use Rattle.text_summary.proofs.Laws.{no_flight_lem, some_flight}
use Rattle.text_summary.proofs.put_flight.Goals as goal

pub returns-then-is_none : goal.returns-then-is_none
unfolding bytes
returns-then-is_none c = search (no_flight_lem, rules)

pub returns : goal.returns
unfolding bytes
returns c = search (some_flight, then, rules) depth 16
