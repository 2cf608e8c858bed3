-- The list is afterwards one thing. Assumes nothing.
use Prim.Native.Nat.{ℕ}
use mathlib.Core.List.{List}
use lib.IntN.{ℤ}
use Rattle.rules_only.proofs.Only.{Only, same}
use Rattle.summary_span.specs.declared.Sum.{Sum}
use Rattle.summary_slots.specs.Slots.{SumPut}

pub only_sum_put : (at n : ℕ) (s : Sum) (list : List ℤ) → Only (SumPut at n s list)
only_sum_put at n s list = same
