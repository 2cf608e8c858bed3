-- For each promise of this crate: two answers that meet it are the same. Assumes nothing.
use Prim.Native.Nat.{ℕ}
use mathlib.Core.List.{List}
use Rattle.rules.specs.declared.Family.{Family}
use Rattle.rules_only.proofs.Only.{Only, same}
use Rattle.layout_family.specs.Letters.{StartGiven, LineLetterGiven, LayoutLetterGiven, FamilyGiven, LayoutFamilyGiven}

pub only_start_given : (f : Family) → Only (StartGiven f)
only_start_given f = same

pub only_line_letter_given : (f : Family) → Only (LineLetterGiven f)
only_line_letter_given f = same

pub only_layout_letter_given : (f : Family) → Only (LayoutLetterGiven f)
only_layout_letter_given f = same

pub only_family_given : (l : List ℕ) → Only (FamilyGiven l)
only_family_given l = same

pub only_layout_family_given : (l : List ℕ) → Only (LayoutFamilyGiven l)
only_layout_family_given l = same
