-- `layout::values::length` meets its contract. Assumes nothing.
use mathlib.Core.Path.{ap}
use borrow.Author.Tests.{not-true, not-false}
use Rattle.rules.specs.Refusals.{says, result_told}
use Rattle.rules.specs.Layouts.{length_said}
use Rattle.rules.proofs.Links.{need_true, need_false}
use borrow.Author.Rules.{rules}
use Rattle.layout.proofs.values.length.Goals as goal

pub returns-then-not-allowed : goal.returns-then-not-allowed
unfolding length_said result_told
returns-then-not-allowed c = search (need_false, not-true, rules) depth 8

pub returns : goal.returns
unfolding length_said result_told
returns c = need_true _ _ _ _ _ c.allowed.ensures (not-false _ c.if-not-allowed.false-raw) (ap says c.line_length.ensures)
