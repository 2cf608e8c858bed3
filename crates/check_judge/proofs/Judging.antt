-- One line judged, as the code goes through `judge`. Assumes nothing.
use Rattle.std.specs.Prelude.{None, Option, Some}
use Prim.Native.Nat.{ℕ, ◌≤◌, ◌<◌}
use mathlib.Core.Bool.{true, false}
use mathlib.Core.List.{List}
use mathlib.Core.Path.{◌≡◌}
use borrow.Author.Tests.{le-leb, lt-leb}
use lib.ListN.{length, get_or}
use Rattle.rules.specs.Choice.{on}
use Rattle.rules.specs.Lines.{kind_of}
use Rattle.rules.specs.Order.{order_of, moved, ruled, judge}
use Rattle.rules.specs.Roles.{role_of, is_role}
use Rattle.rules.specs.Refusals.{no}
use Rattle.rules.specs.declared.Reason.TheVariants as reason
use Rattle.rules.specs.declared.Role.{Role}
use Rattle.rules.specs.declared.State.{State}
use Rattle.check_state.specs.States.{Few, has_few}
use Rattle.check_state.proofs.States.{few_has}
use Rattle.check_judge.specs.Lines.{judge_few}

-- ---- a state whose counts are few, or not

pub judge_many : (l : List ℕ) (st : State) → has_few st ≡ false → judge_few l st ≡ no reason.BadValue 0
unfolding judge_few
judge_many l st e = rw e

pub judge_counted : (l : List ℕ) (st : State) → has_few st ≡ true → judge_few l st ≡ judge l st
unfolding judge_few
judge_counted l st e = rw e

pub judge_few_lem : (l : List ℕ) (st : State) → Few st → judge_few l st ≡ judge l st
judge_few_lem l st f = judge_counted l st (few_has st f)

-- ---- the chain of `judge`

pub judge_empty : (l : List ℕ) (st : State) → length l < 1 → judge l st ≡ no reason.EmptyLine 1
unfolding judge
judge_empty l st h = rw (lt-leb 1 (length l) h)

module _ (l : List ℕ) (st : State) (one : 1 ≤ length l) (r : Role) (q : r ≡ role_of (kind_of (get_or l 0 0))) where
  pub judge_roleless : is_role r ≡ false → judge l st ≡ no reason.Kind 1
  unfolding judge on
  judge_roleless e = rw (le-leb 1 (length l) one, ← q, e)

  module _ (some : is_role r ≡ true) (x : Option ℕ) (o : x ≡ order_of r st) where
    pub judge_misplaced : x ≡ None → judge l st ≡ no reason.Order 1
    unfolding judge on
    judge_misplaced e = rw (le-leb 1 (length l) one, ← q, some, ← o, e)

    pub judge_ruled : (stage : ℕ) → x ≡ Some stage → judge l st ≡ ruled r l (moved stage st)
    unfolding judge on
    judge_ruled stage e = rw (le-leb 1 (length l) one, ← q, some, ← o, e)
