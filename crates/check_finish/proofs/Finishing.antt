-- Where the lines are few, the answer is the one of the rules. Assumes nothing.
use Prim.Native.Nat.{◌≤◌}
use mathlib.Core.Path.{◌≡◌}
use borrow.Author.Tests.{le-leb}
use Rattle.rules.specs.Files.{finish}
use Rattle.rules.specs.declared.Seal.{Seal}
use Rattle.rules.specs.declared.State.{State}
use Rattle.check_finish.specs.Finishes.{finish_few}

pub finish_few_lem : (seal : Seal) (st : State) → st.flight.lines ≤ 16777216 → finish_few seal st ≡ finish seal st
unfolding finish_few
finish_few_lem seal st h = rw (le-leb _ _ h)
