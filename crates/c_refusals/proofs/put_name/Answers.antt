-- `c_refusals::put_name` meets its contract. Assumes nothing.
use borrow.Author.Rules.{rules}
use Rattle.text_pieces.proofs.Callers.{shown_text, shown_counts, shown_fits}
use Rattle.c_refusals.proofs.Laws.{name_shown_lem, no_name, name_put}
use Rattle.c_refusals.proofs.put_name.Goals as goal

pub returns-in_default : goal.returns-in_default
returns-in_default c = no_name _ _ c.reason_of.ensures _ _ c.in_default.is c.refused.ensures

pub slice_bounds-words-end : goal.slice_bounds-words-end
slice_bounds-words-end c = shown_fits (name_shown_lem _ c.put_name-n.ensures (search rules))

pub slice_bounds-put-end : goal.slice_bounds-put-end
slice_bounds-put-end c = shown_counts (name_shown_lem _ c.put_name-n.ensures (search rules))

pub returns : goal.returns
returns c = name_put _ _ c.reason_of.ensures _ _ _ _ _ c.in-Some.is (shown_text (name_shown_lem _ c.put_name-n.ensures (search rules))) c.put.ensures
