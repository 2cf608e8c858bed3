-- A column with its number: the answer, and what stands beside it; and a row of the table, which is there or is not. Assumes nothing.
use Rattle.rules.specs.declared.Signed.{Signed}
use Rattle.rules.specs.declared.Refusal.{Refusal}
use Rattle.std.specs.Prelude.{Result}
use Prim.Native.Nat.{ℕ, suc, ◌≤◌, ◌<◌}
use mathlib.Core.List.{List}
use mathlib.Core.Path.{◌≡◌}
use native.Mathlib.Omega.{arith}
use borrow.Author.Tests.{le-leb, lt-leb}
use lib.IntN.{ℤ}
use lib.ListN.{length, get_or}
use Rattle.rules.specs.Choice.{bytes}
use Rattle.rules.specs.Listed.{listed, unlisted}
use Rattle.rules.specs.Refusals.{number, result_told}
use Rattle.rules.specs.declared.Listed.{Listed}
use Rattle.rules.specs.declared.Reason.TheVariants.{BadValue}
use Rattle.c_answers.specs.Answers.{size, AnswerGiven, accepting, refusing, in_numbers}
use Rattle.c_columns.specs.Values.{signed_numbers, integers_of}
use Rattle.c_look.specs.Looks.{number_by}
use Rattle.c_columns.specs.Calls.{NumberAnswered}
use Rattle.c_columns.specs.Rows.{row_numbers, listed_said}
use Rattle.c_answers.specs.declared.Numbers.{Numbers}
use Rattle.c_answers.proofs.Laws.{given_said, neither_room, one_room, both_room, fitting, not_fitting}

module _ (line l name answer : List ℕ) (number : List ℤ) where
  pub number_no_answer : (length answer ≡ size → ⊥) → NumberAnswered line l name answer number 17 answer number
  number_no_answer h = record { told = not_fitting _ _ _ (neither_room 1 answer number h); value = rw (neither_room 1 answer number h) }

  pub number_no_number : length answer ≡ size → (length number ≡ 1 → ⊥) → NumberAnswered line l name answer number 17 answer number
  number_no_number h g = record { told = not_fitting _ _ _ (one_room 1 answer number h g); value = rw (one_room 1 answer number h g) }

  pub number_answered : (read : Result Signed Refusal) (n : Numbers) (r : ℕ) (answer_now : List ℕ) (number_now : List ℤ) → length answer ≡ size → length number ≡ 1 → result_told read ≡ number_by line l name → n ≡ in_numbers signed_numbers (result_told read) → number_now ≡ integers_of (result_told read) → AnswerGiven answer n r answer_now → NumberAnswered line l name answer number r answer_now number_now
  number_answered read n r answer_now number_now h g e v k a =
      record {
        told = fitting _ answer _ r answer_now (both_room 1 answer number h g) h (given_said _ answer signed_numbers (result_told read) (number_by line l name) n r answer_now e v a);
        value = rw (both_room 1 answer number h g) (rw e at k);
      }

-- ---- a row of the table of listed codes

module _ (n : ℕ) where
  pub row_there : n < 15 → (row : Listed) → row ≡ get_or listed n unlisted → (r : Numbers) → r ≡ accepting (row_numbers row) → r ≡ in_numbers row_numbers (listed_said n)
  unfolding listed_said listed bytes
  row_there h row e r g = rw (le-leb (suc n) 15 (omega arith), ← e) g

  pub row_past : 15 ≤ n → (r : Numbers) → r ≡ refusing (number BadValue) 0 0 → r ≡ in_numbers row_numbers (listed_said n)
  unfolding listed_said listed bytes
  row_past h r g = rw (lt-leb (suc n) 15 (omega arith)) g
