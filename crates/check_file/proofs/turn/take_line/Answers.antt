-- `check_file::turn::take_line` meets its contract: a line is cut off and judged, or torn. Assumes nothing.
use mathlib.Core.Path.{sym, ◌∙◌}
use native.Mathlib.Omega.{arith}
use borrow.Author.Rules.{rules}
use Rattle.file_lines.proofs.Cuts.{cut, torn}
use Rattle.check_file.proofs.Taking.{turn_line, turn_torn}
use Rattle.check_file.proofs.turn.take_line.Goals as goal

pub overflow_sub-end : goal.overflow_sub-end
overflow_sub-end c = omega (arith, torn _ _ _ (sym c.in-Broken.is ∙ c.line_end.ensures) (search rules))

pub overflow_add-end : goal.overflow_add-end
overflow_add-end c = omega (arith, torn _ _ _ (sym c.in-Broken.is ∙ c.line_end.ensures) (search rules))

pub overflow_cast-end : goal.overflow_cast-end
overflow_cast-end c = omega (arith, torn _ _ _ (sym c.in-Broken.is ∙ c.line_end.ensures) (search rules))

pub slice_bounds-judge_line-count : goal.slice_bounds-judge_line-count
slice_bounds-judge_line-count c = omega (arith, cut _ _ _ (sym c.in-At.is ∙ c.line_end.ensures))

pub slice_bounds-judge_line-start : goal.slice_bounds-judge_line-start
slice_bounds-judge_line-start c = omega (arith, cut _ _ _ (sym c.in-At.is ∙ c.line_end.ensures))

pub slice_bounds-judge_line-end : goal.slice_bounds-judge_line-end
slice_bounds-judge_line-end c = omega (arith, cut _ _ _ (sym c.in-At.is ∙ c.line_end.ensures))

pub overflow_add-end-in-At : goal.overflow_add-end-in-At
overflow_add-end-in-At c = omega (arith, cut _ _ _ (sym c.in-At.is ∙ c.line_end.ensures))

pub returns-in-Broken : goal.returns-in-Broken
returns-in-Broken c =
    rw (turn_torn _ _ c.requires.few (torn _ _ _ (sym c.in-Broken.is ∙ c.line_end.ensures) (search rules)) _ c.args.at c.refused_at.ensures)
    c.leave.ensures

pub returns-in-At : goal.returns-in-At
returns-in-At c =
    rw (turn_line _ _ (search rules) (cut _ _ _ (sym c.in-At.is ∙ c.line_end.ensures)) _ c.judge_line.ensures)
    c.leave-in-At.ensures
