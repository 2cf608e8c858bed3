-- The promises on the families: where their columns start, their letters, and which family a line is of.
use Rattle.std.specs.Prelude.{ℕ, List, ◌≡◌, get_or, Option}
use Rattle.rules.specs.Families.{first_start, line_letter, layout_letter, family_of, layout_family_of}
use Rattle.rules.specs.declared.Family.{Family}

-- where the first column of a family starts
abbrev pub StartGiven : Family → ℕ → Type 0
StartGiven f r = r ≡ first_start f

abbrev pub LineLetterGiven : Family → ℕ → Type 0
LineLetterGiven f r = r ≡ line_letter f

abbrev pub LayoutLetterGiven : Family → ℕ → Type 0
LayoutLetterGiven f r = r ≡ layout_letter f

-- the family of a line, where it is of one

abbrev pub FamilyGiven : List ℕ → Option Family → Type 0
FamilyGiven l r = r ≡ family_of (get_or l 0 0)

abbrev pub LayoutFamilyGiven : List ℕ → Option Family → Type 0
LayoutFamilyGiven l r = r ≡ layout_family_of (get_or l 0 0)
