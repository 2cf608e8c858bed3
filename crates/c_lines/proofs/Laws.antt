-- A position in degrees: what the caller is told, and the two angles. Assumes nothing.
use Rattle.rules.specs.declared.Degrees.{Degrees}
use Rattle.rules.specs.Refusals.{result_told}
use Rattle.rules.specs.declared.Refusal.{Refusal}
use Rattle.std.specs.Prelude.{Result}
use Prim.Native.Nat.{ℕ}
use mathlib.Core.List.{List}
use mathlib.Core.Path.{◌≡◌}
use lib.Ieee.{Float}
use lib.ListN.{length}
use borrow.Author.Tests.{eq-eqb, ne_eqb}
use Rattle.rules.specs.Degrees.{degrees_of}
use Rattle.rules.specs.declared.FinePosition.{FinePosition}
use Rattle.c_answers.specs.Answers.{number_of}
use Rattle.c_lines.specs.Calls.{DegreesAnswered}
use Rattle.c_lines.specs.Values.{angles_of}

module _ (lat lon : FinePosition) (degrees : List Float) where
  pub degrees_no_room : (length degrees ≡ 2 → ⊥) → DegreesAnswered lat lon degrees 17 degrees
  degrees_no_room h = record { number = rw (ne_eqb (length degrees) 2 h); angles = rw (ne_eqb (length degrees) 2 h) }

  pub degrees_room : (read : Result Degrees Refusal) (r : ℕ) (after : List Float) → length degrees ≡ 2 → result_told read ≡ degrees_of lat lon → r ≡ number_of (result_told read) → after ≡ angles_of (result_told read) → DegreesAnswered lat lon degrees r after
  degrees_room read r after h e n a =
      record { number = rw (eq-eqb (length degrees) 2 h) (rw e at n); angles = rw (eq-eqb (length degrees) 2 h) (rw e at a) }
