-- The promise of each call on a line that has no layout, by name: an equation on the number returned and on all that is lent for writing, afterwards.
use Rattle.std.specs.Prelude.{ℕ, cond, List, ◌≡◌, Float}
use Rattle.rules.specs.Degrees.{degrees_of}
use Rattle.rules.specs.Reads.{date_said, event_said, satellites_said, head_said, point_said}
use Rattle.rules.specs.declared.FinePosition.{FinePosition}
use Rattle.c_answers.specs.Answers.{in_numbers, number_of, time_numbers, has_room, AnswerGiven}
use Rattle.c_lines.specs.Values.{date_numbers, head_numbers, point_numbers, angles_of}

-- the date of line 2
abbrev pub DateAnswered : List ℕ → List ℕ → ℕ → List ℕ → Type 0
DateAnswered line answer r after = AnswerGiven answer (in_numbers date_numbers (date_said line)) r after

-- the time of an E line, and of an F line
abbrev pub EventAnswered : List ℕ → List ℕ → ℕ → List ℕ → Type 0
EventAnswered line answer r after = AnswerGiven answer (in_numbers time_numbers (event_said line)) r after

abbrev pub SatellitesAnswered : List ℕ → List ℕ → ℕ → List ℕ → Type 0
SatellitesAnswered line answer r after = AnswerGiven answer (in_numbers time_numbers (satellites_said line)) r after

-- the head of a declaration, and a point of it
abbrev pub HeadAnswered : List ℕ → List ℕ → ℕ → List ℕ → Type 0
HeadAnswered line answer r after = AnswerGiven answer (in_numbers head_numbers (head_said line)) r after

abbrev pub PointAnswered : List ℕ → List ℕ → ℕ → List ℕ → Type 0
PointAnswered line answer r after = AnswerGiven answer (in_numbers point_numbers (point_said line)) r after

-- "For the map, a position also comes as a pair of f64 degrees"
pub record DegreesAnswered (lat lon : FinePosition) (degrees : List Float) (r : ℕ) (after : List Float) : Type 0 where
  pub number : r ≡ cond (has_room 2 degrees) (number_of (degrees_of lat lon)) 17
  pub angles : after ≡ cond (has_room 2 degrees) (angles_of (degrees_of lat lon)) degrees
