-- `byte_put::byte` meets its contract. Assumes nothing.
use mathlib.Core.Path.{refl}
use borrow.Author.Rules.{rules}
use Rattle.byte_put.proofs.Laws.{put_there, put_past}
use Rattle.byte_put.proofs.byte.Goals as goal

pub returns-then-out-at : goal.returns-then-out-at
returns-then-out-at c = put_past _ _ _ _ 1 refl (search rules) refl

pub bounds-out-at : goal.bounds-out-at
bounds-out-at c = search rules

pub shape_of-out : goal.shape_of-out
shape_of-out c = search rules

pub returns : goal.returns
returns c = put_there _ _ _ _ 1 refl (search rules) (record { is = λ g. refl })
