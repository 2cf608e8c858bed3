-- One answer at most meets the promise of a turn. Assumes nothing.
use Prim.Native.Nat.{ℕ}
use mathlib.Core.Bool.{Bool}
use mathlib.Core.List.{List}
use Rattle.rules.specs.declared.State.{State}
use Rattle.rules_only.proofs.Only.{OnlyBoth}
use Rattle.check_table.proofs.Only.{turned_only}
use Rattle.check_file.specs.Turns.{TurnTaken}

pub only_turn_taken : (file : List ℕ) (lent : Bool) (table : List ℕ) (at : ℕ) (st : State) → OnlyBoth (TurnTaken file lent table at st)
only_turn_taken file lent table at st = turned_only
