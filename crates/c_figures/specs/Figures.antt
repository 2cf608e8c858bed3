-- The values of an answer on a file.
use Rattle.std.specs.Prelude.{ℕ, Bool, cond, List, [], ◌∷◌, ◌≡◌}
use Rattle.rules.specs.Families.{first_start}
use Rattle.rules.specs.Layouts.{line_length}
use Rattle.rules.specs.declared.Checked.{Checked}
use Rattle.rules.specs.declared.Extra.TheVariants as extra
use Rattle.rules.specs.declared.Family.TheVariants as family
use Rattle.rules.specs.declared.Flight.{Flight}
use Rattle.c_answers.specs.Answers.{outcome_numbers}
use Rattle.c_answers.specs.declared.Numbers.{Numbers}

-- yes or no as a number
abbrev pub one_if : Bool → ℕ
one_if b = cond b 1 0

-- "the date, the I and J layouts, the count of lines, of B lines and of K lines": the layouts by the lengths of their lines; then of N lines the count and the length; then
-- "'signed' yes or no"
abbrev pub flight_numbers : Flight → List ℕ
flight_numbers f =
    f.date.day ∷ f.date.month ∷ f.date.year ∷ f.lines ∷ f.counts.b ∷ f.counts.k ∷ line_length (first_start family.B) f.layouts.b ∷ line_length (first_start (family.Extra extra.K)) f.layouts.k ∷ f.counts.n ∷ line_length (first_start (family.Extra extra.N)) f.layouts.n ∷ one_if f.signed ∷ []

-- the answer on a file
unfoldable pub checked_numbers : Checked → Numbers
checked_numbers c = outcome_numbers (flight_numbers c.flight) c.outcome

-- what the check says of a file, in numbers
abbrev pub FileNumbered : Checked → Numbers → Type 0
FileNumbered c r = r ≡ checked_numbers c
