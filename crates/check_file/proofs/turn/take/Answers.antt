-- `check_file::turn::take` meets its contract. Assumes nothing.
use mathlib.Core.Path.{refl, sym, ◌∙◌}
use borrow.Author.Rules.{rules}
use borrow.Author.Tests.{not-true, not-false}
use Rattle.check_table.proofs.Entering.{halts}
use Rattle.check_file.specs.Turns.{turn_at}
use Rattle.check_file.proofs.Taking.{may_known}
use Rattle.check_file.proofs.turn.take.Goals as goal

pub returns-then-not-may_take : goal.returns-then-not-may_take
unfolding turn_at
returns-then-not-may_take c = rw (sym c.may_take.ensures ∙ not-true _ c.if-not-may_take.true-raw, c.unplaced.ensures) (halts c.args.st _ refl refl)

pub take_line-requires : goal.take_line-requires
unfolding turn_at
take_line-requires c = may_known _ _ _ (sym c.may_take.ensures ∙ not-false _ c.if-not-may_take.false-raw)

pub returns : goal.returns
unfolding turn_at
returns c = rw (sym c.may_take.ensures ∙ not-false _ c.if-not-may_take.false-raw) c.take_line.ensures
