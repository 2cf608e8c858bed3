-- `check_ahead::pace::take_other` meets its contract: the line is cut off where it ends. Assumes nothing.
use mathlib.Core.Path.{refl, sym, ◌∙◌}
use native.Mathlib.Omega.{arith}
use Rattle.file_lines.proofs.Cuts.{cut}
use Rattle.check_ahead.proofs.Lines.{first_is, cut_long, taken_by}
use Rattle.check_ahead.proofs.pace.take_other.Goals as goal

pub slice_bounds-other_line-end : goal.slice_bounds-other_line-end
slice_bounds-other_line-end c = omega (arith, cut _ _ _ (sym c.in-At.is ∙ c.line_end.ensures))

pub returns-in-At : goal.returns-in-At
returns-in-At c =
    let k = cut _ _ _ (sym c.in-At.is ∙ c.line_end.ensures) in
    λ st g. taken_by _ st c.args.p _ c.other_line.result k (c.other_line.ensures st g (first_is _ _ _ _ c.if-at-end.true refl) (cut_long _ _ _ c.if-at-end.true (omega (arith, k))))
