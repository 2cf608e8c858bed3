-- What the text behind a line's fields is. Assumes nothing.
use Rattle.std.specs.Prelude.{Err, Ok, Result}
use Prim.Native.Nat.{ℕ}
use mathlib.Core.List.{List, []}
use mathlib.Core.Path.{◌≡◌}
use lib.ListN.{drop}
use Rattle.rules.specs.Refusals.{Said, result_told}
use Rattle.rules.specs.Reads.{head_rest, point_rest}
use Rattle.rules.specs.declared.Refusal.{Refusal}
use Rattle.rules.specs.declared.Head.{Head}
use Rattle.rules.specs.declared.Point.{Point}

-- the text behind a head that was read is the line from byte 26 on; there is none behind a refusal
module _ (l : List ℕ) (s : Said Head) (r : Result Head Refusal) (e : result_told r ≡ s) where
  pub head_behind : (h : Head) (x : List ℕ) → r ≡ Ok h → x ≡ drop 25 l → x ≡ head_rest l s
  unfolding result_told head_rest
  head_behind h x g k = rw (← e, g) k

  pub head_none : (w : Refusal) → r ≡ Err w → [] ≡ head_rest l s
  unfolding result_told head_rest
  head_none w g = rw (← e, g)

-- and behind a point the line from byte 19 on
module _ (l : List ℕ) (s : Said Point) (r : Result Point Refusal) (e : result_told r ≡ s) where
  pub point_behind : (p : Point) (x : List ℕ) → r ≡ Ok p → x ≡ drop 18 l → x ≡ point_rest l s
  unfolding result_told point_rest
  point_behind p x g k = rw (← e, g) k

  pub point_none : (w : Refusal) → r ≡ Err w → [] ≡ point_rest l s
  unfolding result_told point_rest
  point_none w g = rw (← e, g)
