-- `track_step::skip` meets its contract: the lines from each place on lead to the same. Assumes nothing.
use Rattle.std.specs.Prelude.{Option}
use Prim.Native.Nat.{ℕ, ◌+◌}
use mathlib.Core.Path.{sym, ◌∙◌, ap}
use native.Mathlib.Omega.{arith}
use borrow.Author.Rules.{rules}
use Rattle.track_step.specs.Steps.{behind}
use Rattle.track_rules.specs.declared.Progress.{Progress}
use Rattle.track_step.proofs.Going.{going_first, going_spare, going_fix, going_end, going_torn, going_next, line_fits}
use Rattle.track_step.proofs.skip.Goals as goal

pub loop-p-init : goal.loop-p-init
loop-p-init c = going_first _ _ c.requires

pub returns-then-file-at-eq66 : goal.returns-then-file-at-eq66
returns-then-file-at-eq66 c = (going_fix _ _ _ c.loop-p.invariant c.if-file-at-eq66.true, going_spare _ _ _ c.loop-p.invariant)

pub returns-in_default : goal.returns-in_default
returns-in_default c = (going_torn _ _ _ c.loop-p.invariant _ (search rules) (sym c.in_default.is ∙ c.line_end.ensures), going_spare _ _ _ c.loop-p.invariant)

pub slice_bounds-time_on-start : goal.slice_bounds-time_on-start
slice_bounds-time_on-start c = let h = line_fits _ _ _ (sym c.in-At.is ∙ c.line_end.ensures) in omega (arith, h.0, h.1)

pub slice_bounds-time_on-end : goal.slice_bounds-time_on-end
slice_bounds-time_on-end c = let h = line_fits _ _ _ (sym c.in-At.is ∙ c.line_end.ensures) in omega (arith, h.0, h.1)

pub overflow_add-end : goal.overflow_add-end
overflow_add-end c = let h = line_fits _ _ _ (sym c.in-At.is ∙ c.line_end.ensures) in omega (arith, h.1)

pub behind-p-requires : goal.behind-p-requires
behind-p-requires c = going_spare _ _ _ c.loop-p.invariant

pub loop-p-smaller : goal.loop-p-smaller
loop-p-smaller c =
    let h = line_fits _ _ _ (sym c.in-At.is ∙ c.line_end.ensures) in
    let e = ap (λ (p : Progress). p.at) c.behind-p.ensures in
    omega (arith, h.0, h.1, e)

pub loop-p-preserved : goal.loop-p-preserved
loop-p-preserved c = going_next _ _ _ c.loop-p.invariant _ (sym c.in-At.is ∙ c.line_end.ensures) c.if-file-at-eq66.false _ (c.behind-p.ensures ∙ ap (λ (o : Option ℕ). behind o c.loop-p.p (c.in-At.end + 2)) c.time_on-time.ensures)

pub returns : goal.returns
returns c = (going_end _ _ _ c.loop-p.invariant (search rules), going_spare _ _ _ c.loop-p.invariant)

pub slice_bounds-time_on-count : goal.slice_bounds-time_on-count
slice_bounds-time_on-count c = let h = line_fits _ _ _ (sym c.in-At.is ∙ c.line_end.ensures) in h.0
