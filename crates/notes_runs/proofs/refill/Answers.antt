-- `notes_runs::refill` meets its contract: the notes from here on, put into the run, give the whole answer. Assumes nothing.
use native.Mathlib.Omega.{arith}
use Rattle.notes_runs.proofs.Runs.{filling_first, filling_next, filling_end}
use borrow.Author.Rules.{rules}
use Rattle.notes_runs.proofs.refill.Goals as goal

pub loop-i-init : goal.loop-i-init
loop-i-init c = filling_first _ _ _

pub keep_one-n-requires : goal.keep_one-n-requires
keep_one-n-requires c = let i = c.loop-i.invariant in (i.fits, i.sorted)

pub loop-i-smaller : goal.loop-i-smaller
loop-i-smaller c = let h = c.line_after-i.ensures.later in omega arith

pub loop-i-preserved : goal.loop-i-preserved
loop-i-preserved c = filling_next _ _ _ _ _ _ c.loop-i.invariant (search rules) _ _ c.keep_one-n.ensures _ c.line_after-i.ensures

pub shape_of-heads : goal.shape_of-heads
shape_of-heads c = c.loop-i.invariant.size

pub returns : goal.returns
returns c = filling_end _ _ _ _ _ _ c.loop-i.invariant (omega arith)
