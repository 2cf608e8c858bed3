-- `write_fields::position` meets its contract. Assumes nothing.
use mathlib.Core.Logic.{⊎_elim}
use mathlib.Core.Path.{refl}
use native.Mathlib.Omega.{arith}
use borrow.Author.Rules.{rules}
use borrow.Author.Tests.{ltb-true, ltb-false}
use Rattle.write_fields.proofs.position.Goals.{then-out-at-via-then-out-at, then-out-at-via-else-out-at+then-out-at-2}
use Rattle.rules.specs.Fields.{position_text}
use Rattle.byte_put.proofs.Laws.{puts, put_past, put_there}
use Rattle.write_fields.proofs.Laws.{position_length}
use Rattle.write_fields.proofs.position.Goals as goal

pub returns-then-out-at : goal.returns-then-out-at
unfolding position_text
returns-then-out-at c = elim c.then-out-at.branch [ then-out-at-via-then-out-at w ↦ put_past _ _ _ _ _ (position_length _ _) (omega arith) refl | then-out-at-via-else-out-at+then-out-at-2 w ↦ put_past _ _ _ _ _ (position_length _ _) (omega (arith, ltb-true)) refl ]

pub returns : goal.returns
unfolding position_text
returns c = put_there _ _ _ _ _ (position_length _ _) (omega (arith, ltb-false)) (search puts depth 16)
