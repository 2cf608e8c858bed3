-- The answers of the calls on a shelf, in the paper's terms, and their promises.
use Rattle.rules.specs.declared.Refusal.{Refusal}
use Rattle.std.specs.Prelude.{ℕ, List, ◌≡◌, Result, ⊤}
use Rattle.rules.specs.Refusals.{says, and_then, result_told}
use Rattle.shelf_rules.specs.Shelf.{add_said, after_add, held_at, ask_said, part_of, remove_said, after_remove}
use Rattle.shelf_rules.specs.declared.Slot.{Slot}
use Rattle.shelf_rules.specs.declared.Extent.{Extent}

-- ---- the answers, in the paper's terms

abbrev pub extent_of : Slot → Extent
extent_of s = record { start = s.start; size = s.size }

-- ---- the promises

-- "Adding puts the file through the usual check, takes the first free entry and puts the body at the smallest start where it fits between the others": the answer is that start
pub record FlightAdded (b : List ℕ) (number : ℕ) (file : List ℕ) (r : Result ℕ Refusal) (after : List ℕ) : Type 0 where
  pub told : result_told r ≡ and_then (add_said b number file) (λ s. says s.start)
  pub bytes : after ≡ after_add (add_said b number file) b number file

-- "Asking for a number hands out its body as a part of the buffer": the answer is the start and the length of that part
abbrev pub FlightAsked : List ℕ → ℕ → Result Extent Refusal → Type 0
FlightAsked b number r = result_told r ≡ and_then (ask_said b number) (λ s. says (extent_of s))

-- the part itself
abbrev pub BodyGiven : List ℕ → ℕ → List ℕ → Type 0
BodyGiven b number r = r ≡ part_of (ask_said b number) b

-- "removing zeroes its entry"
pub record FlightRemoved (b : List ℕ) (number : ℕ) (r : Result ⊤ Refusal) (after : List ℕ) : Type 0 where
  pub told : result_told r ≡ remove_said b number
  pub bytes : after ≡ after_remove (held_at b number) b
