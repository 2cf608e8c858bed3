-- Each field could be read exactly where the text of a value within its limits stands. From the laws of each field both ways. Assumes nothing.
use Rattle.rules.specs.declared.Position.{Position}
use Rattle.rules.specs.declared.Date.{Date}
use Rattle.std.specs.Prelude.{None, Option, Some}
use Prim.Native.Nat.{ℕ, ◌+◌, ◌≤◌, ◌<◌, ◌^◌}
use Prim.Native.Char.{code}
use mathlib.Core.Bool.{Bool, true}
use mathlib.Core.List.{List, [], ◌∷◌}
use mathlib.Core.Logic.{◌↔◌}
use mathlib.Core.Path.{◌≡◌, refl, ap}
use native.Mathlib.Omega.{arith}
use lib.ListN.{length, drop}
use Rattle.rules.specs.Numbers.{number_at, digits_of}
use Rattle.rules.specs.Choice.{Each}
use Rattle.rules.specs.Listed.{code_at, code_text}
use Rattle.rules.specs.Lines.{is_date_mark}
use Rattle.rules.specs.Refusals.{number, reason_of}
use Rattle.rules.specs.declared.Class.{Class}
use Rattle.rules.specs.declared.Class.TheVariants as class
use Rattle.rules.proofs.Inverse.{false_true}
use Rattle.rules_trips.proofs.Digits.{number_there, number_here}
use Rattle.rules_trips.proofs.Trip.{Trip}
use Rattle.rules_trips.proofs.Times.{time_trip}
use Rattle.rules_trips.proofs.Dates.{date_trip}
use Rattle.rules_trips.proofs.Plans.{planned_trip}
use Rattle.rules_trips.proofs.Positions.{latitude_trip, longitude_trip}
use Rattle.rules_trips.proofs.Altitudes.{altitude_trip}
use Rattle.rules_sound.proofs.Entries.{code_there, code_here}
use Rattle.grammar_words.specs.Characters.{IsCode}
use Rattle.grammar_words.proofs.Characters.{codes_exactly, word_exactly}
use Rattle.grammar_words.proofs.Values.{either_exactly, time_exactly, latitude_exactly, longitude_exactly, altitude_exactly}
use Rattle.grammar.specs.Checks.{is_there, form_number}
use Rattle.grammar.specs.FieldTexts.{Stood, Field, FieldsTold}
use Rattle.grammar.proofs.Laws.{day_exactly, planned_exactly}
use Rattle.grammar.proofs.EachLine.{mark_there}
use Rattle.grammar.proofs.Leading.{letter}

-- ---- a field that reads both ways

module _ {A : Type 0} (read : List ℕ → ℕ → Option A) (text : A → List ℕ) (Within : A → Type 0) where
  is_field : ((l : List ℕ) (at : ℕ) (v : A) → read l at ≡ Some v → Within v × Stood l at (text v))
      → ((l : List ℕ) (at : ℕ) (v : A) → Within v × Stood l at (text v) → read l at ≡ Some v)
      → Field read text Within
  is_field out in_again = record {
    reads = λ l at v. (out l at v, in_again l at v);
    there = λ l at. (read_there l at (read l at) refl, λ w. ap is_there (in_again l at w.0 (w.1, w.2)));
  }
    where
      read_there : (l : List ℕ) (at : ℕ) (o : Option A) → read l at ≡ o → is_there o ≡ true → (v : A) × Within v × Stood l at (text v)
      read_there l at (Some v) q h = let r = out l at v q in (v, r.0, r.1)
      read_there l at None q h = absurd (false_true h)

  -- the test of the limits says what they are
  trip_field : (width : ℕ) (within : A → Bool) → Trip read text width within → ((v : A) → (within v ≡ true) ↔ Within v) → Field read text Within
  trip_field width within t m =
      is_field
      (λ l at v e. ((m v).0 (t.limits l at v e), record { rest = drop (at + width) l; bytes = t.there l at (at + width) v refl e }))
      (λ l at v w. t.here l at v w.1.rest ((m v).1 w.0) w.1.bytes)

number_field : (n : ℕ) → n ≤ 18 → Field (λ l at. number_at l at n) (digits_of n) (λ v. v < 10 ^ n)
number_field n h =
    is_field (λ l at. number_at l at n) (digits_of n) (λ v. v < 10 ^ n)
    (λ l at v e.
    let r = number_there l at n (at + n) v refl e in
    (r.1, record { rest = drop (at + n) l; bytes = r.0 }))
    (λ l at v w. number_here l at n v w.1.rest h w.0 w.1.bytes)

word_field : Field code_at code_text (λ x. Each IsCode (code_text x))
word_field =
    is_field code_at code_text (λ x. Each IsCode (code_text x))
    (λ l at v e.
    let r = code_there l at (at + 3) v refl e in
    ((word_exactly v).0 r.1, record { rest = drop (at + 3) l; bytes = r.0 }))
    (λ l at v w. code_here l at v w.1.rest ((word_exactly v).1 w.0) w.1.bytes)

-- ---- the date line's mark

mark_field : (l : List ℕ) → (is_date_mark l ≡ true) ↔ Stood l 1 (code "F" ∷ code "D" ∷ code "T" ∷ code "E" ∷ [])
unfolding is_date_mark
mark_field l = (λ e. record { rest = drop 5 l; bytes = mark_there l e }, in_again l)
  where
    in_again : (l : List ℕ) → Stood l 1 (70 ∷ 68 ∷ 84 ∷ 69 ∷ []) → is_date_mark l ≡ true
    in_again [] w = let n = ap length w.bytes in absurd (omega arith)
    in_again (x ∷ t) w = ap (λ y. is_date_mark (x ∷ y)) w.bytes

-- ---- the number of a field that breaks its rule

numbered_by : (c : Class) → number (reason_of c) ≡ form_number c
unfolding number
numbered_by class.Time = refl
numbered_by class.Position = refl
numbered_by class.Altitude = refl
numbered_by class.Date = refl
numbered_by class.Other = refl

-- ---- all of them

pub fields_told : FieldsTold
fields_told = record {
  role = letter;
  numbered = numbered_by;
  time = trip_field _ _ _ 6 _ time_trip time_exactly;
  date = trip_field _ _ _ 6 _ date_trip day_exactly;
  planned = trip_field _ _ _ 6 _ planned_trip planned_exactly;
  latitude = trip_field _ _ _ 8 _ latitude_trip latitude_exactly;
  longitude = trip_field _ _ _ 9 _ longitude_trip longitude_exactly;
  altitude = trip_field _ _ _ 5 _ altitude_trip altitude_exactly;
  number = number_field;
  word = word_field;
  codes = codes_exactly;
  either = either_exactly;
  mark = mark_field;
}
