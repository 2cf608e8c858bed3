-- `number` meets its contract: the number of the column's text. Assumes nothing.
use borrow.Author.Rules.{rules}
use Rattle.rules.specs.Refusals.{result_told}
use Rattle.rules.proofs.Links.{then_ok, then_err}
use Rattle.layout_look.proofs.Laws.{text_number, text_no_number}
use Rattle.c_look.proofs.Same.{by_text}
use Rattle.c_look.proofs.number.Goals as goal

pub returns-in_err-first : goal.returns-in_err-first
unfolding result_told
returns-in_err-first c = by_text _ _ _ _ (then_err _ _ _ _ _ c.column.ensures c.in_err-first.was (search rules))

pub returns-in_default : goal.returns-in_default
unfolding result_told
returns-in_default c = by_text _ _ _ _ (then_ok _ _ _ _ _ c.column.ensures c.in_ok-first.was (search (text_no_number, rules) depth 8))

pub returns : goal.returns
unfolding result_told
returns c = by_text _ _ _ _ (then_ok _ _ _ _ _ c.column.ensures c.in_ok-first.was (search (text_number, rules) depth 8))
