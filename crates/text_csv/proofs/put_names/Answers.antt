-- `text_csv::put_names` meets its contract. Assumes nothing.
use borrow.Author.Rules.{rules}
use Rattle.rules.specs.Choice.{bytes}
use Rattle.text_csv.specs.Rows.{names_shown}
use Rattle.text_csv.proofs.put_names.Goals as goal

pub returns : goal.returns
unfolding names_shown bytes
returns c = search rules
