-- `write_ending::close` meets its contract. Assumes nothing.
use mathlib.Core.Logic.{⊎_elim}
use mathlib.Core.Path.{refl}
use native.Mathlib.Omega.{arith}
use borrow.Author.Rules.{rules}
use borrow.Author.Tests.{ltb-true, ltb-false}
use Rattle.write_ending.proofs.close.Goals.{then-out-at-via-then-out-at, then-out-at-via-else-out-at+then-out-at-2}
use Rattle.byte_put.proofs.Laws.{put_past, put_there, put_last, text_then}
use Rattle.write_ending.proofs.Laws.{closed_length}
use Rattle.write_ending.proofs.close.Goals as goal

pub returns-then-out-at : goal.returns-then-out-at
returns-then-out-at c =
    let long = closed_length c.args.rest.now in
    elim c.then-out-at.branch [ then-out-at-via-then-out-at w ↦ put_past _ _ _ _ _ long (omega arith) refl | then-out-at-via-else-out-at+then-out-at-2 w ↦ put_past _ _ _ _ _ long (omega (arith, ltb-true)) refl ]

pub returns : goal.returns
returns c =
    put_there _ _ _ _ _ (closed_length c.args.rest.now) (omega (arith, ltb-false)) (search (put_last, text_then))
