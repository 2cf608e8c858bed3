-- One answer at most meets each promise of this crate. Assumes nothing.
use Prim.Native.Nat.{ℕ}
use mathlib.Core.List.{List}
use Rattle.rules.specs.declared.Class.{Class}
use Rattle.rules.specs.declared.FixFields.{FixFields}
use Rattle.rules_only.proofs.Only.{Only, same, alike}
use Rattle.rules_only.proofs.Told.{result_one}
use Rattle.line_fix.specs.Parts.{FormGiven, FieldsGiven, LimitsGiven}

pub only_form_given : (c : Class) (first : ℕ) → Only (FormGiven c first)
only_form_given c first = same

pub only_fields_given : (l : List ℕ) → Only (FieldsGiven l)
only_fields_given l = alike result_one

pub only_limits_given : (f : FixFields) → Only (LimitsGiven f)
only_limits_given f = same
