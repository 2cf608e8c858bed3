-- Notes by where they start in the bytes: how the code goes over them. Nothing is assumed of the bytes.
use Rattle.std.specs.Prelude.{ℕ, suc, Bool, false, not, cond, List, [], ◌∷◌, ◌≡◌, leb, eqb, drop}
use Rattle.notes_rules.specs.Notes.{not_after}

-- the bytes before the first CR
abbrev pub up_to_cr : List ℕ → List ℕ
up_to_cr [] = []
up_to_cr (b ∷ l) = cond (eqb b 13) [] (b ∷ up_to_cr l)

-- without CR
abbrev pub Plain : List ℕ → Type 0
Plain [] = Unit {0}
Plain (b ∷ t) = (eqb b 13 ≡ false) × Plain t

-- a note's text: not empty, and without CR
abbrev pub Note : List ℕ → Type 0
Note [] = ⊥
Note (b ∷ t) = Plain (b ∷ t)

-- the text that starts behind i bytes
unfoldable pub text_at : List ℕ → ℕ → List ℕ
text_at s i = up_to_cr (drop i s)

-- places of notes, by their texts and then by where they stand: the note at i does not come after the note at j
unfoldable pub earlier : List ℕ → ℕ → ℕ → Bool
earlier s i j = cond (leb i j) (not_after (text_at s i) (text_at s j)) (not (not_after (text_at s j) (text_at s i)))

-- where notes start; i bytes stand before the list
abbrev mutual
  pub starts : ℕ → List ℕ → List ℕ
  starts i [] = []
  starts i (b ∷ l) = i ∷ cond (eqb b 13) (skip (suc i) l) (inside (suc i) l)

  pub inside : ℕ → List ℕ → List ℕ
  inside i [] = []
  inside i (b ∷ l) = cond (eqb b 13) (skip (suc i) l) (inside (suc i) l)

  pub skip : ℕ → List ℕ → List ℕ
  skip i [] = []
  skip i (b ∷ l) = starts (suc i) l
