-- `check_table::enter` meets its contract. Assumes nothing.
use borrow.Author.Rules.{rules}
use borrow.Author.Tests.{not-true, not-false}
use Rattle.check_table.proofs.Entering.{enters, full}
use Rattle.check_table.proofs.enter.Goals as goal

pub returns-then-not-put_entry : goal.returns-then-not-put_entry
returns-then-not-put_entry c = full c.args.st c.put_entry.ensures _ _ (not-true _ c.if-not-put_entry.true-raw) _ c.in_next.ensures

pub returns : goal.returns
returns c = enters c.args.st c.put_entry.ensures _ _ (not-false _ c.if-not-put_entry.false-raw)
