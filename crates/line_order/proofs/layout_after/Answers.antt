-- `line_order::layout_after` meets its contract: no layout line leads to the start. Assumes nothing.
use Prim.Native.Nat.{◌≤◌}
use native.Mathlib.Omega.{arith}
use Rattle.rules.specs.Roles.{after_layout, stage_after}
use Rattle.rules.specs.declared.Extra.TheVariants as extra
use Rattle.rules.specs.declared.Family.{Family}
use Rattle.rules.specs.declared.Family.TheVariants as family
use Rattle.line_order.proofs.layout_after.Goals as goal

not_first : (f : Family) → 1 ≤ after_layout f
not_first family.B = omega arith
not_first (family.Extra extra.K) = omega arith
not_first (family.Extra extra.N) = omega arith

pub overflow_sub-told : goal.overflow_sub-told
overflow_sub-told c = rw c.after_layout-told.ensures (not_first c.args.family)

pub returns : goal.returns
unfolding stage_after
returns c = rw (← c.after_layout-told.ensures) c.leads_to.ensures
