-- `shelf_bytes::move_down` meets its contract: the bytes are moved, or do not lie inside the buffer. Assumes nothing.
use mathlib.Core.Path.{refl}
use native.Mathlib.Omega.{arith}
use borrow.Author.Rules.{rules}
use Rattle.shelf_bytes.proofs.Laws.{moved_behind, moved_over, moved_there}
use Rattle.shelf_bytes.proofs.move_down.Goals as goal
use Rattle.shelf_bytes.proofs.move_down.Goals.{then-from-to-via-then-from-to, then-from-to-via-else-from-to+then-b-from, then-from-to-via-else-from-to+else-b-from+then-b-from-2}

pub returns-then-from-to : goal.returns-then-from-to
returns-then-from-to c =
    elim c.then-from-to.branch [
      | then-from-to-via-then-from-to w ↦ moved_behind _ _ _ _ _ (omega arith) refl
      | then-from-to-via-else-from-to+then-b-from w ↦ moved_over _ _ _ _ _ (omega arith) refl
      | then-from-to-via-else-from-to+else-b-from+then-b-from-2 w ↦ moved_over _ _ _ _ _ (omega arith) refl
    ]

pub returns : goal.returns
returns c = moved_there _ _ _ _ _ (omega arith) (omega arith) (search rules)
