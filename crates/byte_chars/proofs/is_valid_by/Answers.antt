-- `byte_chars::is_valid_by` meets its contract: each number of the table says what the rule says. Assumes nothing.
use Rattle.std.proofs.Common.{rules}
use Rattle.byte_chars.proofs.Table.{table_valid, table_never, table_comma}
use Rattle.byte_chars.proofs.is_valid_by.Goals as goal

pub returns-in-1 : goal.returns-in-1
returns-in-1 c = search (table_valid, rules)

pub returns-in-0 : goal.returns-in-0
returns-in-0 c = search (table_never, rules)

pub returns-in_default : goal.returns-in_default
returns-in_default c = search (table_comma, rules)
