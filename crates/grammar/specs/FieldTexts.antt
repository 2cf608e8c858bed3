-- Document 01, 'Lines' and 'Fields': the letters of each role, and what it means that a field could be read, apart from how it is read: the bytes there are the text
-- of a value within its limits.
use Rattle.std.specs.Prelude.{ℕ, ◌≤◌, ◌<◌, ◌^◌, true, List, [], ◌∷◌, ◌++◌, ◌⊎◌, ◌↔◌, ◌≡◌, drop, Option, Some}
use Prim.Native.Char.{code}
use Rattle.rules.specs.Choice.{byte, Each}
use Rattle.rules.specs.Chars.{codes_at}
use Rattle.rules.specs.Numbers.{number_at, digits_of}
use Rattle.rules.specs.Fields.{time_at, time_text, date_at, date_text, latitude_at, latitude_text, longitude_at, longitude_text, altitude_at, altitude_text, is_either}
use Rattle.rules.specs.Listed.{code_at, code_text}
use Rattle.rules.specs.Lines.{kind_of, is_date_mark, planned_at}
use Rattle.rules.specs.Writes.{planned_text}
use Rattle.rules.specs.Roles.{role_of}
use Rattle.rules.specs.Refusals.{number, reason_of}
use Rattle.rules.specs.declared.Class.{Class}
use Rattle.rules.specs.declared.Extra.TheVariants as extra
use Rattle.rules.specs.declared.Family.TheVariants as family
use Rattle.rules.specs.declared.Role.{Role}
use Rattle.rules.specs.declared.Role.TheVariants as role
use Rattle.grammar_words.specs.Characters.{IsCode, CodesAt}
use Rattle.grammar_words.specs.Values.{IsTime, IsLatitude, IsLongitude, IsAltitude}
use Rattle.grammar.specs.Grammar.{IsDay, IsPlanned}
use Rattle.grammar.specs.Checks.{is_there, form_number}

-- "The first byte, A to Z, is the kind. M to Z are 'other' and carried (h)."; "M and N are 'other' no more": O to Z are
abbrev pub Letter : Role → ℕ → Type 0
Letter role.Opens b = b ≡ code "A"
Letter role.Heads b = b ≡ code "H"
Letter (role.Tells family.B) b = b ≡ code "I"
Letter (role.Tells (family.Extra extra.K)) b = b ≡ code "J"
Letter (role.Tells (family.Extra extra.N)) b = b ≡ code "M"
Letter (role.Columned family.B) b = b ≡ code "B"
Letter (role.Columned (family.Extra extra.K)) b = b ≡ code "K"
Letter (role.Columned (family.Extra extra.N)) b = b ≡ code "N"
Letter role.Declares b = b ≡ code "C"
Letter role.Event b = b ≡ code "E"
Letter role.Satellites b = b ≡ code "F"
Letter role.Differential b = b ≡ code "D"
Letter role.Seals b = b ≡ code "G"
Letter role.Remark b = b ≡ code "L"
Letter role.Other b = (code "O" ≤ b) × (b ≤ code "Z")
Letter role.NoRole b = (b < code "A") ⊎ (code "Z" < b)

-- behind `at` bytes of the line this text stands
pub record Stood (l : List ℕ) (at : ℕ) (text : List ℕ) : Type 0 where
  pub rest : List ℕ
  pub bytes : drop at l ≡ text ++ rest

-- the field reads as a value exactly where the value's text stands, the value being within its limits; and it could be read exactly where there is such a value
pub record Field {A : Type 0} (read : List ℕ → ℕ → Option A) (text : A → List ℕ) (Within : A → Type 0) : Type 0 where
  pub reads : (l : List ℕ) (at : ℕ) (v : A) → (read l at ≡ Some v) ↔ (Within v × Stood l at (text v))
  pub there : (l : List ℕ) (at : ℕ) → (is_there (read l at) ≡ true) ↔ ((v : A) × Within v × Stood l at (text v))

-- the role of a line by its first byte, and each field that a check of 9 or of 22 to 25 reads; the pairs of an F line are tested by `is_code` itself (`codes_meant`)
pub record FieldsTold : Type 0 where
  pub role : (b : ℕ) → Letter (role_of (kind_of b)) b
  -- "A time field that breaks its rule becomes TIME, a latitude or longitude POSITION, an altitude ALTITUDE, a date DATE; every other field stays 9.": which field is of which
  -- class stands in Checks, line by line
  pub numbered : (c : Class) → number (reason_of c) ≡ form_number c
  -- "Time: HHMMSS, 00 to 23, 00 to 59, 00 to 59, read as seconds of the day."; 235960 too, which "reads as 86,400" (document 02)
  pub time : Field time_at time_text IsTime
  -- "Years 80 to 99 are 1980 to 1999, 00 to 79 are 2000 to 2079 (h). The day must exist in that month and year."
  pub date : Field date_at date_text IsDay
  -- "000000 means not given; every other value must be a date"
  pub planned : Field planned_at planned_text IsPlanned
  -- "Minutes are 00 to 59. Latitude at most 5,400,000, longitude at most 10,800,000."
  pub latitude : Field latitude_at latitude_text IsLatitude
  pub longitude : Field longitude_at longitude_text IsLongitude
  -- "Altitude in metres: five digits, or a minus and four digits that are not all zero. So -9,999 to 99,999."
  pub altitude : Field altitude_at altitude_text IsAltitude
  -- "Digit fields hold 0 to 9 only."
  pub number : (n : ℕ) → n ≤ 18 → Field (λ l at. number_at l at n) (digits_of n) (λ v. v < 10 ^ n)
  -- "a code CCC of 3 code characters"
  pub word : Field code_at code_text (λ x. Each IsCode (code_text x))
  -- "'Code' characters are A to Z and 0 to 9."
  pub codes : (l : List ℕ) (at n : ℕ) → (codes_at l at n ≡ true) ↔ CodesAt l at n
  -- "F or O", "1 or 2", "A or V"
  pub either : (x a b : ℕ) → (is_either x a b ≡ true) ↔ ((x ≡ a) ⊎ (x ≡ b))
  -- "FDTE at 2 to 5 as one field"
  pub mark : (l : List ℕ) → (is_date_mark l ≡ true) ↔ Stood l (byte 2) (code "F" ∷ code "D" ∷ code "T" ∷ code "E" ∷ [])
