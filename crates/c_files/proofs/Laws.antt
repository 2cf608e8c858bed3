-- The check of a file, told the caller in numbers. Assumes nothing.
use Rattle.rules.specs.declared.Refusal.{Refusal}
use Rattle.std.specs.Prelude.{Err, None, Ok, Result, Some, ⊤}
use Prim.Native.Nat.{ℕ}
use native.Mathlib.Omega.{arith}
use mathlib.Core.List.{List}
use mathlib.Core.Path.{◌≡◌, ◌∙◌}
use lib.ListN.{length}
use Rattle.rules.specs.Files.{verdict}
use Rattle.rules.specs.Order.{no_flight}
use Rattle.rules.specs.Promises.{FileChecked, FileJudged}
use Rattle.rules.specs.Refusals.{Said, says, refuses, outcome, value_or, result_told}
use Rattle.rules.specs.declared.Checked.{Checked}
use Rattle.rules.specs.declared.Seal.{Seal}
use Rattle.rules.specs.declared.Seal.TheVariants as seal
use Rattle.c_answers.specs.Answers.{size, AnswerGiven, in_numbers, outcome_numbers}
use Rattle.c_answers.specs.declared.Numbers.{Numbers}
use Rattle.c_answers.proofs.Laws.{same_numbers, beside_room}
use Rattle.c_figures.specs.Figures.{flight_numbers, checked_numbers}
use Rattle.c_files.specs.Calls.{CheckAnswered, CountAnswered}

-- ---- what the check says

pub numbers_said : {A : Type 0} (values : A → List ℕ) (d v : A) (o : Result ⊤ Refusal) (s : Said A) → result_told o ≡ outcome s → v ≡ value_or d s → outcome_numbers (values v) o ≡ in_numbers values s
unfolding result_told
numbers_said values d v (Ok tt) (says w) e h = rw h
numbers_said values d v (Err r) (refuses n l b) e h = cc
numbers_said values d v (Ok tt) (refuses n l b) e h = let z : ◌≡◌ {A = ℕ} 0 1 = cc in let y : ⊥ = omega arith in search
numbers_said values d v (Err r) (says w) e h = let z : ◌≡◌ {A = ℕ} 0 1 = cc in let y : ⊥ = omega arith in search

-- ---- the check of a file

module _ (seal : Seal) (file table answer : List ℕ) where
  pub check_room : (checked : Checked) (n : Numbers) (r : ℕ) (table_now answer_now : List ℕ) → length answer ≡ size → FileChecked seal file table checked table_now → n ≡ checked_numbers checked → AnswerGiven answer n r answer_now → CheckAnswered seal file table answer r table_now answer_now
  unfolding checked_numbers
  check_room checked n r table_now answer_now h f e a =
      beside_room answer table _ n _ r answer_now table_now h (e ∙ numbers_said flight_numbers no_flight _ _ (verdict seal file (Some (length table))) f.told.answer f.told.flight) a f.entries

-- ---- the usual check without a table

module _ (file answer : List ℕ) where
  pub count_room : (checked : Checked) (n : Numbers) (r : ℕ) (after : List ℕ) → FileJudged seal.Usual file checked → n ≡ checked_numbers checked → AnswerGiven answer n r after → CountAnswered file answer r after
  unfolding checked_numbers
  count_room checked n r after f e a = same_numbers _ answer n _ r after (e ∙ numbers_said flight_numbers no_flight _ _ (verdict seal.Usual file None) f.answer f.flight) a
