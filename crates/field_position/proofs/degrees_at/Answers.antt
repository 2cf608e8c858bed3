-- `field_position::degrees_at` meets its contract. Assumes nothing.
use mathlib.Core.Path.{◌≡◌}
use native.Mathlib.Omega.{arith}
use borrow.Author.Rules.{rules}
use Rattle.field_position.proofs.degrees_at.Goals as goal

pub returns-then-width-lt3 : goal.returns-then-width-lt3
returns-then-width-lt3 c = let e : c.args.width ≡ 2 = omega arith in rw e c.two.ensures

pub returns : goal.returns
returns c = let e : c.args.width ≡ 3 = omega arith in rw e c.three.ensures
