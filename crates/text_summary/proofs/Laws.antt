-- A moment by its day, and a flight by whether there is something to tell. Assumes nothing.
use Prim.Native.Nat.{ℕ}
use mathlib.Core.Bool.{Bool, true, false}
use mathlib.Core.List.{List, ◌∷◌, ◌++◌}
use mathlib.Core.Path.{◌≡◌, sym, ◌∙◌}
use borrow.Author.Tests.{eq-eqb, ne_eqb}
use lib.Dec.{eqb}
use lib.IntN.{ℤ, nat_abs}
use Rattle.rules.specs.Choice.{bytes}
use Rattle.rules.specs.Listing.{decimal}
use Rattle.text_pieces.specs.Buffer.{PiecePut}
use Rattle.text_pieces.proofs.Laws.{nothing}
use Rattle.text_twelve.specs.Twelve.{fixes}
use Rattle.text_summary.specs.Outline.{day_shown, times_shown, heights_shown, flight_shown}

module _ (out after : List ℕ) (at r : ℕ) where
  pub no_day : (day : ℕ) → day ≡ 0 → PiecePut out at (day_shown day) at out
  unfolding day_shown
  no_day day e = rw (eq-eqb day 0 e) (nothing out at)

  pub some_day : (day : ℕ) → (day ≡ 0 → ⊥) → PiecePut out at (43 ∷ decimal day) r after → PiecePut out at (day_shown day) r after
  unfolding day_shown
  some_day day e p = rw (ne_eqb day 0 e) p

  -- t is what the test of the number said
  module _ (l : List ℤ) (t : Bool) where
    pub no_flight_lem : t ≡ eqb (nat_abs (fixes l)) 0 → t ≡ true → PiecePut out at (bytes " - - - - -") r after → PiecePut out at (flight_shown l) r after
    unfolding flight_shown
    no_flight_lem e g p = rw (sym e ∙ g) p

    pub some_flight : t ≡ eqb (nat_abs (fixes l)) 0 → t ≡ false → PiecePut out at (times_shown l ++ heights_shown l) r after → PiecePut out at (flight_shown l) r after
    unfolding flight_shown
    some_flight e g p = rw (sym e ∙ g) p
