-- `text_block::fill_lines` meets its contract: at each line what is put is the front of the page, and what comes is the rest of it. Assumes nothing.
use mathlib.Core.Path.{◌≡◌}
use native.Mathlib.Omega.{arith}
use borrow.Author.Rules.{rules}
use Rattle.text_block.proofs.Laws.{part_first, filled_all, filled_full, filled_more}
use Rattle.text_block.proofs.fill_lines.Goals as goal

pub loop-next-init : goal.loop-next-init
loop-next-init c = record { low = omega arith; part = part_first _ _ }

pub returns-then-is_full : goal.returns-then-is_full
returns-then-is_full c = search (filled_full, rules)

pub loop-next-preserved : goal.loop-next-preserved
loop-next-preserved c = record { low = omega arith; part = search (filled_more, rules) }

pub returns : goal.returns
returns c =
    let last : c.max.result ≡ c.loop-next.next = omega (arith, c.loop-next.invariant.low) in
    rw last (filled_all _ _ _ _ _ _ _ _ _ c.loop-next.invariant.part c.loop-next-test.false)
