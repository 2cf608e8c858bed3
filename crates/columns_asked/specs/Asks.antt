-- Up to 13 codes as a text of three bytes each: which they are, and where a layout has their columns.
use Rattle.std.specs.Prelude.{ℕ, zero, suc, ◌/◌, ◌%◌, Bool, true, false, not, ◌&&◌, ◌||◌, List, [], ◌∷◌, ◌≡◌, eqb, leb, length, take, drop, replicate}
use Rattle.std.proofs.lemmas.List.Edits.{sets}
use Rattle.rules.specs.Choice.{given, need}
use Rattle.rules.specs.Layouts.{look, carries}
use Rattle.rules.specs.Listed.{packed_of}
use Rattle.rules.specs.Refusals.{Said, says, no, outcome, value_or, result_told}
use Rattle.rules.specs.declared.Layout.{Layout}
use Rattle.rules.specs.declared.Reason.TheVariants.{BadValue, Absent}
use Rattle.columns_asked.specs.declared.Places.{Places}

-- the names of n codes, three bytes each
unfoldable pub names_from : ℕ → List ℕ → List (List ℕ)
names_from zero codes = []
names_from (suc n) codes = take 3 codes ∷ names_from n (drop 3 codes)

-- the names of all codes of a text
abbrev pub names_of : List ℕ → List (List ℕ)
names_of codes = names_from (length codes / 3) codes

-- a code is that of one of the names
unfoldable pub among : ℕ → List (List ℕ) → Bool
among x [] = false
among x (name ∷ names) = eqb (packed_of name) x || among x names

-- a code comes twice
unfoldable pub again : List (List ℕ) → Bool
again [] = false
again (name ∷ names) = among (packed_of name) names || again names

-- one to 13 codes of three bytes each, none of them twice
unfoldable pub are_codes : List ℕ → Bool
are_codes codes = leb 1 (length codes) && leb (length codes) 39 && eqb (length codes % 3) 0 && not (again (names_of codes))

-- a layout has a column for each of them
unfoldable pub are_carried : Layout → List (List ℕ) → Bool
are_carried layout [] = true
are_carried layout (name ∷ names) = carries layout (packed_of name) && are_carried layout names

-- the first and the last byte of each column, one behind the other
unfoldable pub places_of : Layout → List (List ℕ) → List ℕ
places_of layout [] = []
places_of layout (name ∷ names) = given (look layout (packed_of name)) (places_of layout names) λ s. s.first ∷ s.last ∷ places_of layout names

-- where their columns stand; 19 where the layout has no such code
unfoldable pub places_said : Layout → List (List ℕ) → Said (List ℕ)
places_said layout names = need (are_carried layout names) (no Absent 0) λ _. says (places_of layout names)

-- 17 for what are no codes, then 19
unfoldable pub asked_said : Layout → List ℕ → Said (List ℕ)
asked_said layout codes = need (are_codes codes) (no BadValue 0) λ _. places_said layout (names_of codes)

-- places from the front on, and 0 behind the last
abbrev pub spotted : List ℕ → List ℕ
spotted places = sets (replicate 26 0) 0 places

-- what is said of the places: they stand beside the outcome, none beside a refusal
pub record PlacesTold (s : Said (List ℕ)) (r : Places) : Type 0 where
  pub answer : result_told r.outcome ≡ outcome s
  pub spots : r.spots ≡ spotted (value_or [] s)

abbrev pub PlacesAsked : Layout → List ℕ → Places → Type 0
PlacesAsked layout codes r = PlacesTold (asked_said layout codes) r
