-- A text byte by byte: its first byte, or that it has ended.
use Rattle.std.specs.Prelude.{ℕ, Bool, true, false, cond, List, [], ◌∷◌, ◌≡◌, Option, Some, None}
use Rattle.std.specs.declared.cmp.Ordering.{Ordering}
use Rattle.std.specs.declared.cmp.Ordering.TheVariants.{Less, Equal, Greater}
use Rattle.notes_rules.specs.Notes.{not_after}
use Rattle.notes_rules.specs.Places.{text_at, earlier}

-- a text's first byte, if it has one
abbrev pub letter : List ℕ → Option ℕ
letter [] = None
letter (b ∷ t) = Some b

-- the text has not ended
abbrev pub in_text : List ℕ → Bool
in_text [] = false
in_text (b ∷ t) = true

-- whose text comes first of two: `Less` the first's, `Greater` the second's, `Equal` that of both
abbrev pub whose_of : List ℕ → List ℕ → Ordering
whose_of u v = cond (not_after u v) (cond (not_after v u) Equal Less) Greater

-- ---- promises

-- the text behind i bytes of s does not come after the text behind j bytes of t
abbrev pub TextsCompared : List ℕ → ℕ → List ℕ → ℕ → Bool → Type 0
TextsCompared s i t j r = r ≡ not_after (text_at s i) (text_at t j)

-- whose text comes first, of the one behind i bytes of s and the one behind j bytes of t
abbrev pub WhoseGiven : List ℕ → ℕ → List ℕ → ℕ → Ordering → Type 0
WhoseGiven s i t j r = r ≡ whose_of (text_at s i) (text_at t j)

-- the note at i does not come after the note at j
abbrev pub PlacesCompared : List ℕ → ℕ → ℕ → Bool → Type 0
PlacesCompared s i j r = r ≡ earlier s i j

-- the text goes on behind i bytes
abbrev pub TextGoesOn : List ℕ → ℕ → Bool → Type 0
TextGoesOn s i r = r ≡ in_text (text_at s i)
