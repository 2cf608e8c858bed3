-- The values of an answer on a shelf of flights, and the promise of each call: the number returned, the answer and the buffer afterwards.
use Rattle.std.specs.Prelude.{ℕ, true, false, List, [], ◌∷◌, ◌≡◌}
use Rattle.rules.specs.Refusals.{says, and_then}
use Rattle.shelf_rules.specs.Shelf.{add_said, after_add, held_at, ask_said, remove_said, after_remove}
use Rattle.shelf_rules.specs.Packing.{pack_said, PackedOrSame}
use Rattle.shelf_rules.specs.declared.Extent.{Extent}
use Rattle.shelf_rules.specs.Calls.{extent_of}
use Rattle.c_answers.specs.Answers.{size, in_numbers, has_room, AnsweredBeside, AnswerGiven}

-- the start of a body
abbrev pub start_numbers : ℕ → List ℕ
start_numbers start = start ∷ []

-- its start and its length
abbrev pub body_numbers : Extent → List ℕ
body_numbers s = s.start ∷ s.size ∷ []

-- no value
abbrev pub no_numbers : Unit {0} → List ℕ
no_numbers _ = []

-- "Adding puts the file through the usual check, takes the first free entry and puts the body at the smallest start where it fits between the others"; an answer of another length leaves all as it was
abbrev pub AddAnswered : List ℕ → ℕ → List ℕ → List ℕ → ℕ → List ℕ → List ℕ → Type 0
AddAnswered b number file answer r b_now answer_now =
    AnsweredBeside (has_room size answer) answer (in_numbers start_numbers (and_then (add_said b number file) λ s. says s.start)) b (after_add (add_said b number file) b number file) r answer_now b_now

-- "Asking for a number hands out its body as a part of the buffer"
abbrev pub AskAnswered : List ℕ → ℕ → List ℕ → ℕ → List ℕ → Type 0
AskAnswered b number answer r after = AnswerGiven answer (in_numbers body_numbers (and_then (ask_said b number) λ s. says (extent_of s))) r after

-- "removing zeroes its entry"
abbrev pub RemoveAnswered : List ℕ → ℕ → List ℕ → ℕ → List ℕ → List ℕ → Type 0
RemoveAnswered b number answer r b_now answer_now =
    AnsweredBeside (has_room size answer) answer (in_numbers no_numbers (remove_said b number)) b (after_remove (held_at b number) b) r answer_now b_now

-- "Packing moves bodies to the front in order of start, without gaps, and each flight's bytes stay the same"
pub record PackAnswered (b answer : List ℕ) (r : ℕ) (b_now answer_now : List ℕ) : Type 0 where
  pub told : AnswerGiven answer (in_numbers no_numbers (pack_said b)) r answer_now
  pub packed : has_room size answer ≡ true → PackedOrSame b b_now
  pub same : has_room size answer ≡ false → b_now ≡ b
