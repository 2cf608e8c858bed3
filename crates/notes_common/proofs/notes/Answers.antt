-- `notes_common::notes` meets its contract: the lines from here on decide as all lines do. Assumes nothing.
use mathlib.Core.Logic.{inl, inr}
use mathlib.Core.Path.{sym, ◌∙◌}
use native.Mathlib.Omega.{arith}
use borrow.Author.Rules.{rules}
use Rattle.notes_common.proofs.Common.{line_fits}
use Rattle.notes_common.proofs.Noted.{noting_first, noting_end, noting_torn, noting_either}
use Rattle.notes_common.proofs.notes.Goals.{then-file-at-eq71, else-file-at-eq71}
use Rattle.notes_common.proofs.notes.Goals as goal

pub returns-in_default : goal.returns-in_default
returns-in_default c = noting_torn _ _ _ c.loop-at.invariant _ (search rules) (sym c.in_default.is ∙ c.line_end.ensures)

pub overflow_add-seen : goal.overflow_add-seen
overflow_add-seen c =
    let i = c.loop-at.invariant in
    let h = line_fits _ _ _ (sym c.in-At.is ∙ c.line_end.ensures) in
    omega (arith, i.few, h.0, h.1)

pub overflow_add-at : goal.overflow_add-at
overflow_add-at c =
    let h = line_fits _ _ _ (sym c.in-At.is ∙ c.line_end.ensures) in
    omega (arith, h.1)

pub loop-at-smaller : goal.loop-at-smaller
loop-at-smaller c =
    let h = line_fits _ _ _ (sym c.in-At.is ∙ c.line_end.ensures) in
    omega (arith, h.0, h.1)

pub loop-at-preserved : goal.loop-at-preserved
loop-at-preserved c =
    let i = c.loop-at.invariant in
    let e = sym c.in-At.is ∙ c.line_end.ensures in
    noting_either _ _ _ i _ e _ (λ x. x) (λ x. x) (elim c.if-file-at-eq71.branch [ then-file-at-eq71 w ↦ inl (w.if-file-at-eq71.true, w.seen-is) | else-file-at-eq71 w ↦ inr (w.if-file-at-eq71.false, w.seen-is) ])

pub loop-at-init : goal.loop-at-init
loop-at-init c = noting_first _

pub returns : goal.returns
returns c = noting_end _ _ _ c.loop-at.invariant (search rules)
