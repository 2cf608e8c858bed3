-- `line_check::bad_pair` meets its contract: what the pairs from here on have is the whole answer. Assumes nothing.
use mathlib.Core.Path.{refl, sym, ◌∙◌}
use borrow.Author.Tests.{not-true, not-false}
use Rattle.line_check.proofs.Laws.{pair_past, pair_good, pair_first, pair_second}
use native.Mathlib.Omega.{arith}
use Rattle.line_check.proofs.bad_pair.Goals as goal

pub loop-i-init : goal.loop-i-init
loop-i-init c = refl

pub returns-then-line-j : goal.returns-then-line-j
returns-then-line-j c = sym (c.loop-i.invariant ∙ pair_past _ _ c.if-line-j.true)

pub returns-then-not-is_code : goal.returns-then-not-is_code
returns-then-not-is_code c = sym (c.loop-i.invariant ∙ pair_first _ _ c.if-line-j.false (sym c.is_code.ensures ∙ not-true _ c.if-not-is_code.true-raw))

pub returns-then-not-is_code-2 : goal.returns-then-not-is_code-2
returns-then-not-is_code-2 c = sym (c.loop-i.invariant ∙ pair_second _ _ c.if-line-j.false (sym c.is_code.ensures ∙ not-false _ c.if-not-is_code.false-raw) (sym c.is_code-in-loop-i.ensures ∙ not-true _ c.if-not-is_code-2.true-raw))

pub loop-i-preserved : goal.loop-i-preserved
loop-i-preserved c = c.loop-i.invariant ∙ pair_good _ _ c.if-line-j.false (sym c.is_code.ensures ∙ not-false _ c.if-not-is_code.false-raw) (sym c.is_code-in-loop-i.ensures ∙ not-false _ c.if-not-is_code-2.false-raw)

pub returns : goal.returns
returns c = sym (c.loop-i.invariant ∙ pair_past _ _ (omega arith))
