-- Document 02, 'A shelf of flights on the tablet': the calls since the shelf was empty, and what is told from them alone.
use Rattle.shelf_rules.specs.declared.Extent.{Extent}
use Rattle.rules.specs.declared.Refusal.{Refusal}
use Rattle.std.specs.Prelude.{ℕ, ◌+◌, ◌<◌, cond, List, [], ◌∷◌, ◌≡◌, eqb, length, Err, None, Ok, Option, Result, Some, ⊤}
use Rattle.rules.specs.Choice.{given}
use Rattle.shelf_rules.specs.Contents.{number_of}
use Rattle.shelf_pack.specs.Pack.{ShelfPacked}
use Rattle.shelf_rules.specs.Calls.{FlightAdded, FlightAsked, FlightRemoved}
use Rattle.claims_shelf.specs.Weekend.{IsShelf}

-- a call: the number and the file that it was given, and its answer
pub data Call : Type 0 where
  adds : ℕ → List ℕ → Result ℕ Refusal → Call
  asks : ℕ → Result Extent Refusal → Call
  removes : ℕ → Result ⊤ Refusal → Call
  packs : Result ⊤ Refusal → Call

-- the file last added under a number; the latest call comes first
abbrev pub last_added : List Call → ℕ → Option (List ℕ)
last_added [] x = None
last_added (adds number file (Ok at) ∷ calls) x = cond (eqb number x) (Some file) (last_added calls x)
last_added (adds number file (Err why) ∷ calls) x = last_added calls x
last_added (asks number answer ∷ calls) x = last_added calls x
last_added (removes number answer ∷ calls) x = last_added calls x
last_added (packs answer ∷ calls) x = last_added calls x

-- "what was added"
abbrev pub bytes_added : List Call → ℕ
bytes_added [] = 0
bytes_added (adds number file (Ok at) ∷ calls) = bytes_added calls + length file
bytes_added (adds number file (Err why) ∷ calls) = bytes_added calls
bytes_added (asks number answer ∷ calls) = bytes_added calls
bytes_added (removes number answer ∷ calls) = bytes_added calls
bytes_added (packs answer ∷ calls) = bytes_added calls

-- "what was removed": the bytes of the file last added under the number
abbrev pub bytes_removed : List Call → ℕ
bytes_removed [] = 0
bytes_removed (adds number file answer ∷ calls) = bytes_removed calls
bytes_removed (asks number answer ∷ calls) = bytes_removed calls
bytes_removed (removes number (Ok tt) ∷ calls) = bytes_removed calls + given (last_added calls number) 0 length
bytes_removed (removes number (Err why) ∷ calls) = bytes_removed calls
bytes_removed (packs answer ∷ calls) = bytes_removed calls

-- "an empty shelf"
abbrev pub Empty : List ℕ → Type 0
Empty b = IsShelf b × ((n : ℕ) → n < 64 → number_of b n ≡ 0)

-- the shelf after any calls "From an empty shelf", each keeping its promise; a flight number is a u32
pub data Reached : List Call → List ℕ → Type 0 where
  empty : {b : List ℕ} → Empty b → Reached [] b
  added_one : {calls : List Call} {b after : List ℕ} (number : ℕ) (file : List ℕ) (r : Result ℕ Refusal) → number < 4294967296 → FlightAdded b number file r after → Reached calls b
      → Reached (adds number file r ∷ calls) after
  asked_one : {calls : List Call} {b : List ℕ} (number : ℕ) (r : Result Extent Refusal) → FlightAsked b number r → Reached calls b → Reached (asks number r ∷ calls) b
  removed_one : {calls : List Call} {b after : List ℕ} (number : ℕ) (r : Result ⊤ Refusal) → FlightRemoved b number r after → Reached calls b → Reached (removes number r ∷ calls) after
  packed_all : {calls : List Call} {b after : List ℕ} (r : Result ⊤ Refusal) → ShelfPacked b r after → Reached calls b → Reached (packs r ∷ calls) after
