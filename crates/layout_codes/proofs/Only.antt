-- One answer at most meets each promise of this crate. Assumes nothing.
use Prim.Native.Nat.{ℕ}
use mathlib.Core.List.{List}
use Rattle.rules.specs.declared.AtLimit.{AtLimit}
use Rattle.rules_only.proofs.Only.{Only, same}
use Rattle.layout_codes.specs.Parts.{CodePacked, ListedFound, WidthTest, LimitTest}

pub only_code_packed : (a b c : ℕ) → Only (CodePacked a b c)
only_code_packed a b c = same

pub only_listed_found : (x : ℕ) → Only (ListedFound x)
only_listed_found x = same

pub only_width_test : (x width : ℕ) → Only (WidthTest x width)
only_width_test x width = same

pub only_limit_test : (at : AtLimit) (x : ℕ) (t : List ℕ) → Only (LimitTest at x t)
only_limit_test at x t = same
