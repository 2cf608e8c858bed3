-- The promises of the time order, and of the numbers that a body line moves.
use Rattle.std.specs.Prelude.{ℕ, ◌+◌, Bool, not, ◌&&◌, ◌≡◌, leb, None, Option, Some}
use Rattle.rules.specs.Choice.{given, need}
use Rattle.rules.specs.Order.{passing, is_back}
use Rattle.rules.specs.Roles.{in_body}
use Rattle.rules.specs.declared.Counts.{Counts}
use Rattle.check_counts.specs.Counting.{are_few}
use Rattle.check_clock.specs.declared.Pace.{Pace}

-- the time falls, and not to the next day
abbrev pub BackTest : ℕ → ℕ → Bool → Type 0
BackTest before now r = r ≡ is_back (passing before now)

-- the numbers after a body line of this time, the next line standing behind `next` bytes
abbrev pub onward : Pace → ℕ → ℕ → Counts → Pace
onward p next t counts = record { at = next; stage = in_body; clock = t; lines = p.lines + 1; counts = counts }

-- the counts have room for one line more
unfoldable pub has_room : Pace → Bool
has_room p = leb p.lines 33554432 && are_few p.counts

-- after a line of this time, where there is room for it, it has a time, and that does not fall
abbrev pub AfterTime : Option ℕ → Pace → ℕ → Counts → Option Pace → Type 0
AfterTime t p next counts r =
    r ≡ need (has_room p) None λ _. given (t) None λ s. need (not (is_back (passing p.clock s))) None λ _. Some (onward p next s counts)
