-- The answer of a plan in the paper's terms, and its promise.
use Rattle.rules.specs.declared.Refusal.{Refusal}
use Rattle.std.specs.Prelude.{ℕ, List, ◌≡◌, Result}
use Rattle.rules.specs.Refusals.{result_told}
use Rattle.shelf_rules.specs.declared.Spot.{Spot}
use Rattle.shelf_rules.specs.Shelf.{spot_for}

-- "takes the first free entry and puts the body at the smallest start where it fits between the others"
abbrev pub SpotAllotted : List ℕ → ℕ → ℕ → Result Spot Refusal → Type 0
SpotAllotted b number size r = result_told r ≡ spot_for b number size
