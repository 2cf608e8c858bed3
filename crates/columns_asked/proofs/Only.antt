-- One answer at most meets the promise of this crate. Assumes nothing.
use Prim.Native.Nat.{ℕ}
use mathlib.Core.List.{List}
use mathlib.Core.Path.{◌≡◌}
use Rattle.rules.specs.Refusals.{Said}
use Rattle.rules.specs.declared.Layout.{Layout}
use Rattle.rules_only.proofs.Told.{result_one}
use Rattle.rules_only.proofs.Only.{Only, same, alike}
use Rattle.columns_asked.specs.Asks.{PlacesTold, PlacesAsked}

pub places_only : {s : Said (List ℕ)} → Only (PlacesTold s)
places_only r r' e e' =
    let outcome : r.outcome ≡ r'.outcome = alike result_one r.outcome r'.outcome e.answer e'.answer in
    let spots : r.spots ≡ r'.spots = same r.spots r'.spots e.spots e'.spots in
    λ i. record { outcome = outcome i; spots = spots i }

pub only_places_asked : (layout : Layout) (codes : List ℕ) → Only (PlacesAsked layout codes)
only_places_asked layout codes = places_only
