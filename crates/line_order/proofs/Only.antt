-- One answer at most meets each promise of this crate. Assumes nothing.
use Rattle.rules.specs.declared.Kind.{Kind}
use Rattle.rules.specs.declared.Role.{Role}
use Rattle.rules.specs.declared.Seal.{Seal}
use Rattle.rules.specs.declared.State.{State}
use Rattle.rules_only.proofs.Only.{Only, same}
use Rattle.line_order.specs.Following.{EndGiven, RoleGiven, RoleTest, OrderTold}

pub only_end_given : (seal : Seal) → Only (EndGiven seal)
only_end_given seal = same

pub only_role_given : (k : Kind) → Only (RoleGiven k)
only_role_given k = same

pub only_order_told : (r : Role) (st : State) → Only (OrderTold r st)
only_order_told r st = same

pub only_role_test : (r : Role) → Only (RoleTest r)
only_role_test r = same
