-- Document 02, 'Bring evening notes together': the part of a file up to the end of its last G line, the notes behind it, and their order.
use Rattle.std.specs.Prelude.{ℕ, Bool, true, false, ◌&&◌, ◌||◌, cond, List, [], ◌∷◌, ◌++◌, ltb, eqb, get_or}
use Prim.Native.Char.{code}
use Rattle.rules.specs.Split.{Lines, end, broken, line}

-- "ascending byte order, a line that begins another coming first": the text x does not come after the text y
abbrev pub not_after : List ℕ → List ℕ → Bool
not_after [] y = true
not_after (a ∷ x) [] = false
not_after (a ∷ x) (b ∷ y) = cond (ltb a b) true (cond (ltb b a) false (not_after x y))

-- the texts, each with CR LF after it
abbrev pub joined : List (List ℕ) → List ℕ
joined [] = []
joined (t ∷ ts) = t ++ 13 ∷ 10 ∷ joined ts

-- a G line
abbrev pub is_seal : List ℕ → Bool
is_seal l = eqb (get_or l 0 0) (code "G")

-- a G line is among the lines
unfoldable pub sealed : Lines → Bool
sealed end = false
sealed (broken n) = false
sealed (line t ls) = is_seal t || sealed ls

-- "every byte up to the end of the last G line": the lines from which on a G line still comes
unfoldable pub common_part : Lines → List ℕ
common_part end = []
common_part (broken n) = []
common_part (line t ls) = cond (is_seal t || sealed ls) (t ++ 13 ∷ 10 ∷ common_part ls) []

-- "the L lines after it": the others
unfoldable pub notes_in : Lines → List (List ℕ)
notes_in end = []
notes_in (broken n) = []
notes_in (line t ls) = cond (is_seal t || sealed ls) (notes_in ls) (t ∷ notes_in ls)

-- "equal in every byte"
abbrev pub is_same : List ℕ → List ℕ → Bool
is_same [] [] = true
is_same [] (b ∷ y) = false
is_same (a ∷ x) [] = false
is_same (a ∷ x) (b ∷ y) = eqb a b && is_same x y
