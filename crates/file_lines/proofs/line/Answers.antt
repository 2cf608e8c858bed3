-- `file_lines::line` meets its contract: the part between the bounds, which lie in the file. Assumes nothing.
use mathlib.Core.Path.{sym}
use borrow.Author.Rules.{rules}
use Rattle.file_lines.proofs.Places.{bounds_order, bounds_end, line_is, no_line}
use Rattle.file_lines.proofs.line.Goals as goal

pub slice_bounds-result-count : goal.slice_bounds-result-count
slice_bounds-result-count c = search (bounds_order, rules)

pub slice_bounds-result-start : goal.slice_bounds-result-start
slice_bounds-result-start c = search (bounds_order, rules)

pub slice_bounds-result-end : goal.slice_bounds-result-end
slice_bounds-result-end c = search (bounds_end, rules)

pub returns-in-Ok : goal.returns-in-Ok
returns-in-Ok c = sym (line_is _ _ _ _ _ c.bounds.ensures c.in-Ok.is)

pub returns-in-Err : goal.returns-in-Err
returns-in-Err c = sym (no_line _ _ _ _ _ c.bounds.ensures c.in-Err.is)
