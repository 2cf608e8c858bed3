-- `check_table::put_entry` meets its contract. Assumes nothing.
use mathlib.Core.Path.{refl, sym}
use borrow.Author.Rules.{rules}
use borrow.Author.Tests.{not-true, not-false}
use Rattle.check_table.proofs.Turns.{past, inside}
use Rattle.check_table.proofs.put_entry.Goals as goal

pub returns-then-not-lent : goal.returns-then-not-lent
returns-then-not-lent c = rw (not-true c.args.lent c.if-not-lent.true-raw) (record { fits = refl; entries = refl })

pub returns-then-table-n : goal.returns-then-table-n
returns-then-table-n c = rw (not-false c.args.lent c.if-not-lent.false-raw) (record { fits = sym (past _ _ c.if-table-n.true); entries = refl })

pub returns : goal.returns
returns c = rw (not-false c.args.lent c.if-not-lent.false-raw) (record { fits = sym (inside _ _ c.if-table-n.false); entries = refl })
