-- The promise of the search for a free run.
use Rattle.std.specs.Prelude.{ℕ, List, ◌≡◌, Option}
use Rattle.shelf_rules.specs.Shelf.{place_for}

abbrev pub PlaceFound : List ℕ → ℕ → Option ℕ → Type 0
PlaceFound b size r = r ≡ place_for b size
