-- For each promise of this crate: two answers that meet it are the same, and so is the buffer afterwards. Assumes nothing.
use Prim.Native.Nat.{ℕ}
use mathlib.Core.List.{List}
use mathlib.Core.Path.{◌≡◌}
use Rattle.rules.specs.declared.Refusal.{Refusal}
use Rattle.rules.specs.declared.Entry.{Entry}
use Rattle.rules.specs.declared.FixFields.{FixFields}
use Rattle.rules.specs.declared.Flight.{Flight}
use Rattle.text_pieces.proofs.Only.{only_shown}
use Rattle.text_listing.specs.Lines.{RefusalShown, FlightShown, FixShown, ColumnShown}

module _ (out : List ℕ) (r r' : ℕ) (after after' : List ℕ) where
  pub only_refusal_shown : (why : Refusal) → RefusalShown why out r after → RefusalShown why out r' after' → (r ≡ r') × (after ≡ after')
  only_refusal_shown why = only_shown out r r' after after'

  pub only_flight_shown : (f : Flight) → FlightShown f out r after → FlightShown f out r' after' → (r ≡ r') × (after ≡ after')
  only_flight_shown f = only_shown out r r' after after'

  pub only_fix_shown : (n : ℕ) (f : FixFields) → FixShown n f out r after → FixShown n f out r' after' → (r ≡ r') × (after ≡ after')
  only_fix_shown n f = only_shown out r r' after after'

  pub only_column_shown : (l : List ℕ) (e : Entry) → ColumnShown l e out r after → ColumnShown l e out r' after' → (r ≡ r') × (after ≡ after')
  only_column_shown l e = only_shown out r r' after after'
