-- `write_fields::date` meets its contract. Assumes nothing.
use borrow.Author.Rules.{rules}
use Rattle.rules.specs.Fields.{date_text}
use Rattle.write_fields.proofs.date.Goals as goal

pub returns : goal.returns
unfolding date_text
returns c = search rules
