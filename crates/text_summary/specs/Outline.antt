-- The line of a flight's summary for people, up to the file's name: its fields are read by place, with one space between, and each line has as many. It is made of the date and of the
-- twelve numbers of document 02, 'A summary beside each flight', for any twelve numbers. No document describes it (docs/DECISIONS.md).
use Rattle.std.specs.Prelude.{ℕ, ◌/◌, ◌%◌, List, [], ◌∷◌, ◌++◌, eqb, ℤ, nat_abs}
use Prim.Native.Char.{code}
use Rattle.std.proofs.Math.Bool.{cond}
use Rattle.rules.specs.Choice.{bytes}
use Rattle.rules.specs.Listing.{decimal, shown, shown_metres}
use Rattle.rules.specs.declared.Date.{Date}
use Rattle.text_dates.specs.Dates.{two_digits, date_shown}
use Rattle.text_pieces.specs.Buffer.{PiecePut}
use Rattle.text_decimals.specs.Decimals.{shown_seconds}
use Rattle.text_twelve.specs.Twelve.{fixes, first_day, first_seconds, last_day, last_seconds, lasting, highest, lowest}
use Rattle.text_box.specs.Boxed.{box_shown}

-- ---- fields, each with a space before it

-- a time as HH:MM:SS, 23:59:60 for the leap second, and behind it the number of a day above 0, as +1
unfoldable pub day_shown : ℕ → List ℕ
day_shown day = cond (eqb day 0) [] (code "+" ∷ decimal day)

unfoldable pub when_shown : ℕ → ℕ → List ℕ
when_shown day seconds = shown_seconds seconds ++ day_shown day

-- so many seconds, as H:MM:SS
unfoldable pub lasting_shown : ℕ → List ℕ
lasting_shown n = shown (n / 3600) ++ (two_digits (code ":") (n / 60 % 60) ++ two_digits (code ":") (n % 60))

-- ---- the line

module _ (l : List ℤ) where
  -- the first and the last fix, and the time between them
  unfoldable pub times_shown : List ℕ
  times_shown =
      when_shown (first_day l) (first_seconds l)
      ++ (when_shown (last_day l) (last_seconds l)
      ++ lasting_shown (lasting (first_day l) (first_seconds l) (last_day l) (last_seconds l)))

  unfoldable pub heights_shown : List ℕ
  heights_shown = shown_metres (highest l) ++ shown_metres (lowest l)

  -- a dash for each of these five where there is no fix
  unfoldable pub flight_shown : List ℕ
  unfolding bytes
  flight_shown = cond (eqb (nat_abs (fixes l)) 0) (bytes " - - - - -") (times_shown ++ heights_shown)

-- date; first fix, last fix, duration, highest and lowest; number of fixes; box
unfoldable pub outline_shown : Date → List ℤ → List ℕ
outline_shown d l = date_shown d ++ (flight_shown l ++ (shown_metres (fixes l) ++ box_shown l))

-- ---- the promise

abbrev pub OutlinePut : Date → List ℤ → List ℕ → ℕ → List ℕ → Type 0
OutlinePut d l out r after = PiecePut out 0 (outline_shown d l) r after
