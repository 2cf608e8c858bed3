-- `write_fields::pairs` meets its contract. Assumes nothing.
use mathlib.Core.Logic.{⊎_elim}
use mathlib.Core.Path.{refl}
use native.Mathlib.Omega.{arith}
use borrow.Author.Rules.{rules}
use borrow.Author.Tests.{ltb-true, ltb-false}
use Rattle.write_fields.proofs.pairs.Goals.{then-out-at-via-then-out-at, then-out-at-via-else-out-at+then-out-at-lt6}
use Rattle.rules.proofs.Texts.{pairs_length}
use Rattle.byte_put.proofs.Laws.{puts, put_past, put_there}
use Rattle.write_fields.proofs.pairs.Goals as goal

pub returns-then-out-at : goal.returns-then-out-at
returns-then-out-at c = elim c.then-out-at.branch [ then-out-at-via-then-out-at w ↦ put_past _ _ _ _ 6 (pairs_length _ _ _) (omega arith) refl | then-out-at-via-else-out-at+then-out-at-lt6 w ↦ put_past _ _ _ _ 6 (pairs_length _ _ _) (omega (arith, ltb-true)) refl ]

pub returns : goal.returns
returns c = put_there _ _ _ _ 6 (pairs_length _ _ _) (omega (arith, ltb-false)) (search puts depth 16)
