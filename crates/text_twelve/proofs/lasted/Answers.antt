-- `text_twelve::lasted` meets its contract. Assumes nothing.
use native.Mathlib.Omega.{arith}
use Rattle.text_twelve.specs.Twelve.{lasting}
use Rattle.text_twelve.proofs.lasted.Goals as goal

pub returns : goal.returns
unfolding lasting
returns c =
    omega (arith, c.natural_at-4.ensures, c.natural_at-3.ensures, c.natural_at-2.ensures, c.natural_at.ensures)
