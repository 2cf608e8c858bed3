-- `text_explain::told::put_explanation` meets its contract. Assumes nothing.
use borrow.Author.Rules.{rules}
use Rattle.text_explain.proofs.Pieces.{unplaced_fills, explained_fills}
use Rattle.text_explain.proofs.told.put_explanation.Goals as goal

pub returns-then-why-eq0 : goal.returns-then-why-eq0
returns-then-why-eq0 c = unplaced_fills _ _ c.if-why-eq0.true c.put_head-next.ensures

pub returns : goal.returns
returns c =
    explained_fills _ _ _ c.if-why-eq0.false c.line_text.ensures c.put_head-next.ensures c.put_quote.ensures
