-- `layout::values::presence` meets its contract. Assumes nothing.
use mathlib.Core.Path.{ap}
use borrow.Author.Tests.{not-true, not-false}
use lib.Count.{ones}
use Rattle.rules.specs.Refusals.{says, result_told}
use Rattle.rules.specs.Layouts.{presence_said, presence_of}
use Rattle.rules.proofs.Links.{need_true, need_false}
use borrow.Author.Rules.{rules}
use Rattle.layout.proofs.values.presence.Goals as goal

pub returns-then-not-allowed : goal.returns-then-not-allowed
unfolding presence_said result_told presence_of
returns-then-not-allowed c = search (need_false, not-true, rules) depth 8

pub returns : goal.returns
unfolding presence_said result_told presence_of
returns c = need_true _ _ _ _ _ c.allowed.ensures (not-false _ c.if-not-allowed.false-raw) (ap (λ w. says (record { word = w; count = ones w })) c.word-word.ensures)
