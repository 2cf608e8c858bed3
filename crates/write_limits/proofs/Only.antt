-- One answer at most meets each promise of this crate. Assumes nothing.
use Prim.Native.Nat.{ℕ}
use mathlib.Core.List.{List}
use Rattle.rules.specs.declared.Layout.{Layout}
use Rattle.rules.specs.declared.Fix.{Fix}
use Rattle.rules.specs.declared.Head.{Head}
use Rattle.rules_only.proofs.Only.{Only, same}
use Rattle.write_limits.specs.Tests.{HeadTest, FieldsSpelt, FixTest, ExtraTest}

pub only_head_test : (h : Head) (rest : List ℕ) → Only (HeadTest h rest)
only_head_test h rest = same

pub only_fields_spelt : (f : Fix) → Only (FieldsSpelt f)
only_fields_spelt f = same

pub only_fix_test : (f : Fix) (tail : List ℕ) (layout : Layout) → Only (FixTest f tail layout)
only_fix_test f tail layout = same

pub only_extra_test : (t : ℕ) (tail : List ℕ) (layout : Layout) → Only (ExtraTest t tail layout)
only_extra_test t tail layout = same
