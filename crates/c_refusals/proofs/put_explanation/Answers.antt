-- `c_refusals::put_explanation` meets its contract. Assumes nothing.
use borrow.Author.Rules.{rules}
use Rattle.text_pieces.proofs.Callers.{shown_text, shown_counts, shown_fits}
use Rattle.c_refusals.proofs.Laws.{no_explanation, explanation_put}
use Rattle.c_refusals.proofs.put_explanation.Goals as goal

pub returns-in_default : goal.returns-in_default
returns-in_default c = no_explanation _ _ c.reason_of.ensures _ _ _ _ _ c.in_default.is c.refused.ensures

pub slice_bounds-words-end : goal.slice_bounds-words-end
slice_bounds-words-end c = shown_fits c.refused-n.ensures

pub slice_bounds-put-end : goal.slice_bounds-put-end
slice_bounds-put-end c = shown_counts c.refused-n.ensures

pub returns : goal.returns
returns c = explanation_put _ _ c.reason_of.ensures _ _ _ _ _ _ _ _ c.in-Some.is (shown_text c.refused-n.ensures) c.put.ensures
