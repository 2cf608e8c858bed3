-- A date as text.
use Rattle.std.specs.Prelude.{ℕ, ◌+◌, ◌/◌, ◌%◌, List, [], ◌∷◌, ◌++◌}
use Prim.Native.Char.{code}
use Rattle.rules.specs.Listing.{decimal}
use Rattle.rules.specs.declared.Date.{Date}

-- a mark and a number below 100, with a zero in front where it has one digit
unfoldable pub two_digits : ℕ → ℕ → List ℕ
two_digits mark n = mark ∷ (48 + n / 10 % 10) ∷ (48 + n % 10) ∷ []

-- year, month and day, so that lines of several files sort by date
unfoldable pub date_shown : Date → List ℕ
date_shown d = decimal d.year ++ (two_digits (code "-") d.month ++ two_digits (code "-") d.day)
