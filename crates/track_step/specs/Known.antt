-- Digits that are known to stand at a place, and the fields of a line that is known to be good.
use Rattle.std.specs.Prelude.{ℕ, ◌≤◌, List, ◌≡◌, Some}
use Rattle.rules.specs.Fields.{most_latitude, most_longitude}
use Rattle.rules.specs.Lines.{fix_fields}
use Rattle.rules.specs.Numbers.{number_at}
use Rattle.rules.specs.Refusals.{says}
use Rattle.rules.specs.declared.FixFields.{FixFields}

-- n digits stand at a place
pub record Numbered (s : List ℕ) (at n : ℕ) : Type 0 where
  pub value : ℕ
  pub read : number_at s at n ≡ Some value

abbrev pub NumberKnown : List ℕ → ℕ → ℕ → ℕ → Type 0
NumberKnown s at n r = number_at s at n ≡ Some r

-- the fields that the line has, and their counts within the limits
abbrev pub FieldsKnown : List ℕ → FixFields → Type 0
FieldsKnown l r = (fix_fields l ≡ says r) × (r.time ≤ 86400) × (r.lat.count ≤ most_latitude) × (r.lon.count ≤ most_longitude)
