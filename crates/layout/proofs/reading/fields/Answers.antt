-- `layout::reading::fields` meets its contract: each way out is a way through `layout_fields`. Assumes nothing.
use Prim.Native.Nat.{◌≤◌}
use native.Mathlib.Omega.{arith}
use lib.Dec.{lit≤}
use Rattle.rules.specs.Layouts.{layout_fields}
use Rattle.rules.specs.Refusals.{result_told}
use Rattle.rules.proofs.Links.{need_eq, need_ne}
use Rattle.byte_number.proofs.Laws.{value_le}
use Rattle.layout.proofs.Laws.{links}
use Rattle.layout.proofs.Turns.{told_same}
use borrow.Author.Rules.{rules}
use Rattle.layout.proofs.reading.fields.Goals as goal

few : (c : goal.In-Some) → c.in-Some.nn ≤ 99
few c = value_le _ _ _ _ _ c.digits.ensures c.in-Some.is 99 (lit≤ tt)

pub returns-in_default : goal.returns-in_default
unfolding layout_fields result_told
returns-in_default c = search (links, rules)

pub overflow_mul-nn : goal.overflow_mul-nn
overflow_mul-nn c = omega (arith, few c)

pub overflow_add-nn : goal.overflow_add-nn
overflow_add-nn c = omega (arith, few c)

pub returns-then-line-nn : goal.returns-then-line-nn
unfolding layout_fields result_told
returns-then-line-nn c = search (links, need_ne, rules)

pub returns : goal.returns
unfolding layout_fields
returns c = told_same _ _ _ (search (links, need_eq, rules)) c.entries.ensures
