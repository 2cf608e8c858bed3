-- What the part of a line between two places is, and what the first bad column tells of all. Assumes nothing.
use Rattle.std.specs.Prelude.{None, Some}
use Prim.Native.Nat.{ℕ}
use mathlib.Core.List.{List}
use mathlib.Core.Path.{◌≡◌}
use Rattle.rules.specs.Layouts.{bad_column, columns}
use Rattle.rules.specs.Refusals.{says, no}
use Rattle.rules.specs.declared.Reason.TheVariants.{Column}
use Rattle.rules.specs.declared.AtLimit.{AtLimit}
use Rattle.rules.specs.declared.Layout.{Layout}

-- what the first bad column tells of all
pub columns_clear : (at : AtLimit) (l : List ℕ) (layout : Layout) → bad_column at l layout ≡ None → says tt ≡ columns at l layout
unfolding columns
columns_clear at l layout e = rw e

pub columns_bad : (at : AtLimit) (l : List ℕ) (layout : Layout) (k : ℕ) → bad_column at l layout ≡ Some k → no Column k ≡ columns at l layout
unfolding columns
columns_bad at l layout k e = rw e
