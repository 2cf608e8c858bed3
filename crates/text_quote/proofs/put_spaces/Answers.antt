-- `text_quote::put_spaces` meets its contract: so many spaces are put as turns are done. Assumes nothing.
use mathlib.Core.Path.{◌≡◌}
use native.Mathlib.Omega.{arith}
use Rattle.text_pieces.proofs.Laws.{then, nothing}
use Rattle.text_quote.proofs.Pieces.{space_more}
use Rattle.text_quote.proofs.put_spaces.Goals as goal

pub loop-init : goal.loop-init
loop-init c = nothing _ _

pub loop-preserved : goal.loop-preserved
loop-preserved c = rw space_more (then c.loop.invariant c.put_byte-next.ensures)

pub returns : goal.returns
returns c = let all : c.loop.counter ≡ c.args.n = omega arith in rw all at c.loop.invariant
