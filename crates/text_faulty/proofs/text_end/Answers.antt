-- `text_faulty::text_end` meets its contract. Assumes nothing.
use borrow.Author.Rules.{rules}
use Rattle.text_faulty.proofs.Places.{whole_text, broken_text}
use Rattle.text_faulty.proofs.text_end.Goals as goal

pub returns-in-At : goal.returns-in-At
returns-in-At c = search (whole_text, rules)

pub returns-in-At-2 : goal.returns-in-At-2
returns-in-At-2 c = search (broken_text, rules)
