-- The bytes first to last of a line, counted from 1, as far as the line has them.
use Rattle.std.specs.Prelude.{ℕ, List, ◌≡◌}
use Rattle.rules.specs.Choice.{part, byte}

abbrev pub TextOf : List ℕ → ℕ → ℕ → List ℕ → Type 0
TextOf line first last r = r ≡ part (byte first) last line
