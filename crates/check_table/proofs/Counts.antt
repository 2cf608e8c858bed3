-- A good line is counted once, and at most one line of a family with it. Assumes nothing.
use Prim.Native.Nat.{ℕ, ◌+◌, ◌≤◌}
use mathlib.Core.Bool.{Bool, true, false}
use mathlib.Core.List.{List}
use mathlib.Core.Path.{◌≡◌}
use native.Mathlib.Omega.{arith}
use Rattle.rules.specs.Families.{count_of}
use Rattle.rules.specs.Order.{judge}
use Rattle.rules.specs.Refusals.{says}
use Rattle.rules.specs.Roles.{is_of}
use Rattle.rules.specs.declared.Family.{Family}
use Rattle.rules.specs.declared.State.{State}
use Rattle.rules_laws.proofs.Counted.{one, judged_more}
use Rattle.rules_laws.proofs.Passing.{role_in}

one_at_most : (b : Bool) → one b ≤ 1
one_at_most true = omega arith
one_at_most false = omega arith

module _ (l : List ℕ) (st s : State) (e : judge l st ≡ says s) where
  pub lines_counted : s.flight.lines ≡ st.flight.lines + 1
  lines_counted = (judged_more l st s e).lines

  pub family_counted : (f : Family) → count_of f s.flight.counts ≤ count_of f st.flight.counts + 1
  family_counted f = omega (arith, (judged_more l st s e).count f, one_at_most (is_of f (role_in l)))
