-- "The day must exist in that month and year.": how many days a month has.
use Rattle.std.specs.Prelude.{ℕ, ◌≡◌}
use Rattle.rules.specs.Fields.{days_of}

abbrev pub DaysGiven : ℕ → ℕ → ℕ → Type 0
DaysGiven y m r = r ≡ days_of y m
