-- `byte_chars::is_text_byte` meets its contract: its tests are those of the definition, in another order. Assumes nothing.
use mathlib.Core.Bool.{not, ◌&&◌}
use lib.Dec.{eqb, leb}
use Rattle.rules.specs.Chars.{is_valid}
use Rattle.byte_chars.proofs.Laws.{ordered}
use Rattle.byte_chars.proofs.is_text_byte.Goals as goal

pub returns : goal.returns
unfolding is_valid
returns c =
    let b = c.args.b in
    ordered (leb 32 b && leb b 125) (not (eqb b 33)) (not (eqb b 36)) (not (eqb b 42)) (not (eqb b 92)) (not (eqb b 94)) (not (eqb b 44))
