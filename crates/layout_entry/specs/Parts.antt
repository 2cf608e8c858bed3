-- The promises on the entries of a layout, and their answers in the paper's terms.
use Rattle.rules.specs.declared.Reason.{Reason}
use Rattle.rules.specs.declared.Refusal.{Refusal}
use Rattle.std.specs.Prelude.{ℕ, ◌+◌, ◌*◌, Bool, true, false, List, map, ◌≡◌, eqb, take, Option, Result}
use Rattle.rules.specs.Choice.{given, first_of}
use Rattle.rules.specs.Listed.{code_at}
use Rattle.rules.specs.Refusals.{result_told}
use Rattle.rules.specs.Layouts.{placed, entry_at}
use Rattle.rules.specs.declared.Entry.{Entry}
use Rattle.rules.specs.declared.Layout.{Layout}
use Rattle.layout_coded.specs.Spots.{CarriesTest}

-- a code is among the first n of a list
abbrev pub is_among : List ℕ → ℕ → ℕ → Bool
is_among codes n x = given (first_of (λ y. eqb y x) (λ k y. k) (take n codes) 0) false λ k. true

-- n entries of which only the codes are told, the first n of a list
abbrev pub coded_by : List ℕ → ℕ → Layout
coded_by codes n = record { count = n; entries = map (λ x. record { first = 0; last = 0; code = x }) codes }

-- a refusal of the line in hand, "with 0 for the line number"
abbrev pub refusal_at : Reason → ℕ → Refusal
refusal_at why first = record { reason = why; line = 0; byte = first }

-- an entry, or its refusal

abbrev pub EntryPlaced : ℕ → Layout → Entry → ℕ → Result Entry Refusal → Type 0
EntryPlaced start before e first r = result_told r ≡ placed start before e first

-- the same behind any layout, where `again` says whether it has the entry's code
abbrev pub PlacedBehind : ℕ → Bool → Entry → ℕ → Result Entry Refusal → Type 0
PlacedBehind start again e first r = (before : Layout) → CarriesTest before e.code again → EntryPlaced start before e first r

-- three code characters at a place

abbrev pub CodeGiven : List ℕ → ℕ → Option ℕ → Type 0
CodeGiven l at r = r ≡ code_at l at

-- the entry behind i others: the letter, NN and 7 bytes for each entry stand before it
abbrev pub EntryGiven : List ℕ → ℕ → ℕ → Layout → Result Entry Refusal → Type 0
EntryGiven l i start before r = result_told r ≡ entry_at l (3 + 7 * i) start before
