-- The words behind `igc shelf SHELF`: what is asked of the shelf, and a flight number.
use Rattle.std.specs.Prelude.{ℕ, cond, List, ◌≡◌, leb, length, None, Option, Some}
use Rattle.rules.specs.Choice.{bytes, given, need}
use Rattle.rules.specs.Numbers.{number_at}
use Rattle.igc_words.specs.Words.{same}
use Rattle.igc_words.specs.declared.deeds.Deed.{Deed}
use Rattle.igc_words.specs.declared.deeds.Deed.TheVariants.{Add, List as Listing, Get, Remove, Pack}

unfoldable pub deed_of : List ℕ → Option Deed
unfolding bytes
deed_of word =
    cond (same word (bytes "add")) (Some Add)
    (cond (same word (bytes "list")) (Some Listing)
    (cond (same word (bytes "get")) (Some Get)
    (cond (same word (bytes "remove")) (Some Remove)
    (cond (same word (bytes "pack")) (Some Pack) None))))

-- 1 to 18 digits, which spell a number of four bytes
unfoldable pub flight_in : List ℕ → Option ℕ
flight_in word =
    need (leb 1 (length word)) None λ _.
    given (number_at word 0 (length word)) None λ v.
    need (leb v 4294967295) None λ _.
    Some v

-- ---- the promises

abbrev pub DeedGiven : List ℕ → Option Deed → Type 0
DeedGiven word r = r ≡ deed_of word

abbrev pub FlightGiven : List ℕ → Option ℕ → Type 0
FlightGiven word r = r ≡ flight_in word
