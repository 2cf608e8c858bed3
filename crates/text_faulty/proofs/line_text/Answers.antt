-- `text_faulty::line_text` meets its contract: the part from where the line starts to where its text ends. Assumes nothing.
use Rattle.text_faulty.proofs.Places.{text_zero, text_found}
use Rattle.text_faulty.proofs.line_text.Goals as goal

pub returns-then-n-eq0 : goal.returns-then-n-eq0
returns-then-n-eq0 c = text_zero _ _ c.if-n-eq0.true

pub returns : goal.returns
returns c = text_found _ _ _ _ c.line_start-start.ensures c.text_end-end.ensures c.if-n-eq0.false
