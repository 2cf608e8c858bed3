-- `layout_codes::keeps_rule` meets its contract: a listed code is judged by its row. Assumes nothing.
use borrow.Author.Rules.{rules}
use Rattle.rules.specs.Listed.{keeps_rule}
use Rattle.layout_codes.proofs.Laws.{rows}
use Rattle.layout_codes.proofs.keeps_rule.Goals as goal

pub returns-in_default : goal.returns-in_default
unfolding keeps_rule
returns-in_default c = search (rows, rules) depth 16

pub returns : goal.returns
unfolding keeps_rule
returns c = search (rows, rules) depth 16
