-- For each promise of this crate: two outcomes that meet it are the same, the number returned and all that is lent for writing. Assumes nothing.
use Prim.Native.Nat.{ℕ}
use mathlib.Core.List.{List}
use mathlib.Core.Path.{◌≡◌, sym, ◌∙◌}
use lib.Ieee.{Float}
use Rattle.rules.specs.declared.FinePosition.{FinePosition}
use Rattle.c_answers.proofs.Only.{only_answered}
use Rattle.c_lines.specs.Calls.{DegreesAnswered, DateAnswered, EventAnswered, SatellitesAnswered, HeadAnswered, PointAnswered}
use Rattle.c_lines.specs.Headers.{HeaderAnswered}

module _ (line answer : List ℕ) (r r' : ℕ) (after after' : List ℕ) where
  pub only_date_answered : DateAnswered line answer r after → DateAnswered line answer r' after' → (r ≡ r') × (after ≡ after')
  only_date_answered = only_answered answer r r' after after'

  pub only_event_answered : EventAnswered line answer r after → EventAnswered line answer r' after' → (r ≡ r') × (after ≡ after')
  only_event_answered = only_answered answer r r' after after'

  pub only_satellites_answered : SatellitesAnswered line answer r after → SatellitesAnswered line answer r' after' → (r ≡ r') × (after ≡ after')
  only_satellites_answered = only_answered answer r r' after after'

  pub only_head_answered : HeadAnswered line answer r after → HeadAnswered line answer r' after' → (r ≡ r') × (after ≡ after')
  only_head_answered = only_answered answer r r' after after'

  pub only_point_answered : PointAnswered line answer r after → PointAnswered line answer r' after' → (r ≡ r') × (after ≡ after')
  only_point_answered = only_answered answer r r' after after'

  pub only_header_answered : HeaderAnswered line answer r after → HeaderAnswered line answer r' after' → (r ≡ r') × (after ≡ after')
  only_header_answered = only_answered answer r r' after after'

pub only_degrees_answered : (lat lon : FinePosition) (degrees : List Float) (r r' : ℕ) (after after' : List Float) → DegreesAnswered lat lon degrees r after → DegreesAnswered lat lon degrees r' after' → (r ≡ r') × (after ≡ after')
only_degrees_answered lat lon degrees r r' after after' d d' = (d.number ∙ sym d'.number, d.angles ∙ sym d'.angles)
