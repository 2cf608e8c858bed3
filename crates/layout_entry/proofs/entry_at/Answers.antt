-- `layout_entry::entry_at` meets its contract: each way out is a way through `entry_at`. Assumes nothing.
use mathlib.Core.Path.{◌∙◌}
use borrow.Author.Rules.{rules}
use Rattle.rules.specs.Layouts.{entry_at}
use Rattle.rules.specs.Refusals.{result_told}
use Rattle.rules.proofs.Links.{given_some}
use Rattle.byte_number.proofs.Laws.{reads}
use Rattle.layout_entry.proofs.Laws.{links}
use Rattle.layout_entry.proofs.Codes.{among_carries}
use Rattle.layout_entry.proofs.entry_at.Goals as goal

pub returns-in_default : goal.returns-in_default
unfolding entry_at result_told
returns-in_default c = search (links, rules) depth 16

pub returns-in_default-digits : goal.returns-in_default-digits
unfolding entry_at result_told
returns-in_default-digits c = search (links, rules) depth 16

pub returns-in_default-code_at : goal.returns-in_default-code_at
unfolding entry_at result_told
returns-in_default-code_at c = search (links, rules) depth 16

pub overflow_cast-first : goal.overflow_cast-first
overflow_cast-first c = search (reads, rules) depth 16

pub overflow_cast-last : goal.overflow_cast-last
overflow_cast-last c = search (reads, rules) depth 16

pub returns : goal.returns
unfolding entry_at
returns c =
    given_some _ _ _ _ _ _ c.digits.ensures c.in-Some.is
    (given_some _ _ _ _ _ _ c.digits-2.ensures c.in-Some-digits.is
    (given_some _ _ _ _ _ _ c.code_at.ensures c.in-Some-code_at.is (c.behind.ensures _ (c.is_among-again.ensures ∙ among_carries _ _ _))))
