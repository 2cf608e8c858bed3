-- The exit status of the programs igc and badge.
use Rattle.std.specs.Prelude.{ℕ, cond, ◌≡◌, leb}
use Rattle.igc_fate.specs.declared.Fate.{Fate}
use Rattle.igc_fate.specs.declared.Fate.TheVariants.{Accepted, Refused, Unread, Unwritten}

-- 0 where the file is accepted, 1 where it is refused, 2 where it could not be opened or read to its end, or the output could not be written
unfoldable pub status_of : Fate → ℕ
status_of Accepted = 0
status_of Refused = 1
status_of Unread = 2
status_of Unwritten = 2

-- of two statuses the larger counts
unfoldable pub worse : ℕ → ℕ → ℕ
worse a b = cond (leb b a) a b

-- ---- the promises

abbrev pub StatusGiven : Fate → ℕ → Type 0
StatusGiven fate r = r ≡ status_of fate

abbrev pub WorseGiven : ℕ → ℕ → ℕ → Type 0
WorseGiven a b r = r ≡ worse a b
