-- The promise of each look into the entries of a reading, and of each call on a layout, by name: an equation on the number returned and on all that is lent for writing, afterwards.
use Rattle.std.specs.Prelude.{ℕ, ◌&&◌, cond, List, ◌≡◌, ℤ}
use Rattle.c_answers.specs.Answers.{size, in_numbers, presence_numbers, has_room, Answered, AnswerGiven}
use Rattle.c_given.specs.Given.{entry_by, presence_by}
use Rattle.c_look.specs.Looks.{look_by, number_by}
use Rattle.c_columns.specs.Values.{span_numbers, signed_numbers, entry_numbers, integers_of}

-- where a column's text stands
abbrev pub LookAnswered : List ℕ → List ℕ → List ℕ → List ℕ → ℕ → List ℕ → Type 0
LookAnswered line ns name answer r after = AnswerGiven answer (in_numbers span_numbers (look_by line ns name)) r after

-- a column as a whole number, which stands beside the answer
pub record NumberAnswered (line ns name answer : List ℕ) (number : List ℤ) (r : ℕ) (answer_now : List ℕ) (number_now : List ℤ) : Type 0 where
  pub told : Answered (has_room size answer && has_room 1 number) answer (in_numbers signed_numbers (number_by line ns name)) r answer_now
  pub value : number_now ≡ cond (has_room size answer && has_room 1 number) (integers_of (number_by line ns name)) number

-- a column of an I, a J or an M line
abbrev pub EntryAnswered : List ℕ → ℕ → List ℕ → ℕ → List ℕ → Type 0
EntryAnswered l n answer r after = AnswerGiven answer (in_numbers entry_numbers (entry_by l n)) r after

-- the presence word of an I line
abbrev pub PresenceAnswered : List ℕ → List ℕ → ℕ → List ℕ → Type 0
PresenceAnswered l answer r after = AnswerGiven answer (in_numbers presence_numbers (presence_by l)) r after
