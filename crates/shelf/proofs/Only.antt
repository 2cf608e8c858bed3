-- One answer at most meets each promise of this crate, and the buffer is afterwards one thing. Assumes nothing.
use Prim.Native.Nat.{ℕ}
use mathlib.Core.List.{List}
use Rattle.rules_only.proofs.Told.{result_one}
use Rattle.rules_only.proofs.Only.{Only, OnlyBoth, same, alike}
use Rattle.shelf_rules.specs.Calls.{FlightAdded, FlightAsked, BodyGiven, FlightRemoved}

pub only_flight_added : (b : List ℕ) (number : ℕ) (file : List ℕ) → OnlyBoth (FlightAdded b number file)
only_flight_added b number file r r' after after' w w' = (alike result_one r r' w.told w'.told, same after after' w.bytes w'.bytes)

pub only_flight_asked : (b : List ℕ) (number : ℕ) → Only (FlightAsked b number)
only_flight_asked b number = alike result_one

pub only_body_given : (b : List ℕ) (number : ℕ) → Only (BodyGiven b number)
only_body_given b number = same

pub only_flight_removed : (b : List ℕ) (number : ℕ) → OnlyBoth (FlightRemoved b number)
only_flight_removed b number r r' after after' w w' = (alike result_one r r' w.told w'.told, same after after' w.bytes w'.bytes)
