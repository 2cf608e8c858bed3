-- `write_height::altitude` meets its contract. Assumes nothing.
use mathlib.Core.Logic.{⊎_elim}
use mathlib.Core.Path.{refl}
use native.Mathlib.Omega.{arith}
use borrow.Author.Rules.{rules}
use borrow.Author.Tests.{ltb-true, ltb-false}
use Rattle.write_height.proofs.altitude.Goals.{then-out-at-via-then-out-at, then-out-at-via-else-out-at+then-out-at-lt5}
use Rattle.byte_put.proofs.Laws.{puts, put_past, put_there}
use Rattle.write_height.proofs.Laws.{altitude_length, plain_fills, minus_fills}
use Rattle.write_height.proofs.altitude.Goals as goal

pub returns-then-out-at : goal.returns-then-out-at
returns-then-out-at c = elim c.then-out-at.branch [ then-out-at-via-then-out-at w ↦ put_past _ _ _ _ 5 (altitude_length _) (omega arith) refl | then-out-at-via-else-out-at+then-out-at-lt5 w ↦ put_past _ _ _ _ 5 (altitude_length _) (omega (arith, ltb-true)) refl ]

pub returns-then-has_no_minus : goal.returns-then-has_no_minus
returns-then-has_no_minus c = put_there _ _ _ _ 5 (altitude_length _) (omega (arith, ltb-false)) (search (puts, plain_fills, minus_fills) depth 16)

pub returns : goal.returns
returns c = put_there _ _ _ _ 5 (altitude_length _) (omega (arith, ltb-false)) (search (puts, plain_fills, minus_fills) depth 16)
