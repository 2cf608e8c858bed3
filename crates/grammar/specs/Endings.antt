-- Document 01, 'Lines': where CR LF stands, as a test and in words; and what a line by its number and a step come back with, of any file, table and place.
use Rattle.std.specs.Prelude.{ℕ, zero, suc, ◌+◌, ◌-◌, ◌≤◌, Bool, true, false, ◌&&◌, ◌||◌, List, [], ◌∷◌, ◌++◌, ◌↔◌, ◌⊎◌, ◌≡◌, eqb, length, get_or, drop, None, Some}
use Rattle.rules.specs.declared.Bounds.{Bounds}
use Rattle.rules.specs.Split.{Stepped}

-- behind n bytes stand CR and LF
unfoldable pub is_ending : ℕ → List ℕ → Bool
is_ending n [] = false
is_ending zero (b ∷ l) = eqb b 13 && eqb (get_or l 0 0) 10
is_ending (suc n) (b ∷ l) = is_ending n l

-- CR and LF stand somewhere
unfoldable pub has_ending : List ℕ → Bool
has_ending [] = false
has_ending (b ∷ l) = is_ending 0 (b ∷ l) || has_ending l

-- CR LF stands in these bytes, between those before it and those after it
pub record Ending (l : List ℕ) : Type 0 where
  pub before : List ℕ
  pub after : List ℕ
  pub order : l ≡ before ++ (13 ∷ 10 ∷ after)

-- what the tests of CR LF mean, apart from how: one stands behind n bytes, and one stands somewhere
pub record EndingsMeant : Type 0 where
  pub there : (n : ℕ) (l : List ℕ) → (is_ending n l ≡ true) ↔ ((w : Ending l) × (length w.before ≡ n))
  pub somewhere : (l : List ℕ) → (has_ending l ≡ true) ↔ Ending l

-- ---- a line, a line by its number, and a step

-- the bytes begin with this text and its CR LF, and no CR LF stands earlier
pub record FirstLine (l text : List ℕ) : Type 0 where
  pub after : List ℕ
  pub order : l ≡ text ++ (13 ∷ 10 ∷ after)
  pub none_earlier : (w : Ending l) → length text ≤ length w.before

-- where a line starts and where its CR LF stands, each by the number of bytes before it
pub record IsLineAt (file : List ℕ) (b : Bounds) : Type 0 where
  pub text : List ℕ
  pub is : FirstLine (drop b.from file) text
  pub ends : b.to ≡ b.from + length text

-- "A line is asked for with the file, the table and a line number": its entry is 0 or just past a CR LF, and the line stands there
pub record IsNumbered (file table : List ℕ) (n : ℕ) (b : Bounds) : Type 0 where
  pub least : 1 ≤ n
  pub most : n ≤ length table
  pub entry : b.from ≡ get_or table (n - 1) 0
  pub starts : (b.from ≡ 0) ⊎ ((w : Ending file) × (length w.before + 2 ≡ b.from))
  pub line : IsLineAt file b

-- "comes back at each step with the next line, or with the news that none is left"
pub data IsStep (file : List ℕ) (at : ℕ) : Stepped → Type 0 where
  none_left : at ≡ length file → IsStep file at (record { found = None; next = at })
  next_line : (e : ℕ) → at + 1 ≤ length file → IsLineAt file (record { from = at; to = e }) → IsStep file at (record { found = Some (record { from = at; to = e }); next = e + 2 })
