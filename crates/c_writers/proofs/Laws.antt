-- A line that is written, and what the caller is told. Assumes nothing.
use Rattle.rules.specs.declared.Refusal.{Refusal}
use Rattle.std.specs.Prelude.{Result}
use Prim.Native.Nat.{ℕ}
use mathlib.Core.List.{List}
use mathlib.Core.Path.{◌≡◌, ◌∙◌, ap}
use lib.ListN.{length}
use Rattle.rules.specs.Refusals.{Said, result_told}
use Rattle.c_answers.specs.Answers.{size, in_numbers, AnswerGiven}
use Rattle.c_answers.specs.declared.Numbers.{Numbers}
use Rattle.c_answers.proofs.Laws.{beside_room}
use Rattle.c_writers.specs.Values.{place_numbers}
use Rattle.c_given_write.specs.Written.{SaidWritten}
use Rattle.c_writers.specs.Calls.{WriteAnswered}

module _ (text : List ℕ) (place : ℕ) (out : List ℕ) (said : Said ℕ) (answer : List ℕ) where
  pub write_room : (w : Result ℕ Refusal) (n : Numbers) (r : ℕ) (out_now answer_now : List ℕ) → length answer ≡ size → SaidWritten said text place out w out_now → n ≡ in_numbers place_numbers (result_told w) → AnswerGiven answer n r answer_now → WriteAnswered said text place out answer r out_now answer_now
  write_room w n r out_now answer_now h s e a = beside_room answer out _ n _ r answer_now out_now h (e ∙ ap (in_numbers place_numbers) s.told) a s.bytes
