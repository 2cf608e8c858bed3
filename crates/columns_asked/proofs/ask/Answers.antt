-- `columns_asked::ask` meets its contract. Assumes nothing.
use borrow.Author.Rules.{rules}
use Rattle.columns_asked.proofs.Asking.{ask_none, ask_there, ask_few}
use Rattle.columns_asked.proofs.ask.Goals as goal

pub returns-then-not-are_codes : goal.returns-then-not-are_codes
returns-then-not-are_codes c = search (ask_none, rules)

pub spots_of-requires : goal.spots_of-requires
spots_of-requires c = search (ask_few, rules)

pub returns : goal.returns
returns c = search (ask_there, rules)
