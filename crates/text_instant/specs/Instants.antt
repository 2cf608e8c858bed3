-- A moment as ISO 8601 writes it, in UTC, and a height behind a mark: for files that other programs read. No document describes them (docs/DECISIONS.md).
use Rattle.std.specs.Prelude.{ℕ, List, [], ◌∷◌, ◌++◌}
use Prim.Native.Char.{code}
use Rattle.rules.specs.declared.Date.{Date}
use Rattle.rules.specs.declared.FineTime.{FineTime}
-- behind a mark, whole metres
pub use Rattle.text_listing.specs.Lines.{metres_behind}
use Rattle.text_dates.specs.Dates.{date_shown}
use Rattle.text_decimals.specs.Decimals.{clock_behind}
use Rattle.text_calendar.specs.Calendar.{days_after}

-- date, T, time with the decimals that the file has, Z: 2023-12-31T23:59:60.5Z. The leap second is one of the day that it ends
unfoldable pub instant_shown : Date → FineTime → List ℕ
instant_shown d t = date_shown d ++ (clock_behind (code "T") t ++ (code "Z" ∷ []))

-- the moment of a fix, by the date of its file and the day that it is counted at
abbrev pub moment_of : Date → ℕ → FineTime → List ℕ
moment_of d day t = instant_shown (days_after day d) t
