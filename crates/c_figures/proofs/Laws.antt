-- An outcome with its values beside it, in numbers. Assumes nothing.
use Rattle.std.specs.Prelude.{Err, Ok, Result, ⊤}
use Prim.Native.Nat.{ℕ}
use mathlib.Core.List.{List}
use mathlib.Core.Path.{◌≡◌}
use Rattle.rules.specs.Refusals.{number}
use Rattle.rules.specs.declared.Refusal.{Refusal}
use Rattle.c_answers.specs.Answers.{accepting, refusing, outcome_numbers}
use Rattle.c_answers.specs.declared.Numbers.{Numbers}

module _ (values : List ℕ) (o : Result ⊤ Refusal) (x : Numbers) where
  pub outcome_good : o ≡ (Ok tt) → x ≡ accepting values → x ≡ outcome_numbers values o
  outcome_good e h = rw e h

  pub outcome_bad : (w : Refusal) → o ≡ Err w → x ≡ refusing (number w.reason) w.line w.byte → x ≡ outcome_numbers values o
  outcome_bad w e h = rw e h
