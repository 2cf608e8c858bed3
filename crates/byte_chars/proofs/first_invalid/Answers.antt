-- `byte_chars::first_invalid` meets its contract: none is invalid where each may stand in every line, and else the table tells. Assumes nothing.
use mathlib.Core.Path.{sym}
use Rattle.byte_chars.proofs.first_invalid.Goals as goal

pub returns-then-is_text : goal.returns-then-is_text
returns-then-is_text c = sym (c.is_text.ensures c.if-is_text.true _)
