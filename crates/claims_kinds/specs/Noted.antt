-- What is demanded of the kinds of a file's lines, said over the lines of the file, in the grammar's words.
use Rattle.std.specs.Prelude.{ℕ, ◌<◌, ◌||◌, cond, List, [], ◌∷◌, ◌≡◌, eqb, length, get_or, None}
use Prim.Native.Char.{code}
use Rattle.grammar.specs.Faults.{Refused}
use Rattle.grammar.specs.Grammar.{Meets, lines_in}
use Rattle.kinds.specs.Kinds.{kinds_seal, note_mark}

-- line n, counted from 0, begins with a letter
abbrev pub Begins : List (List ℕ) → ℕ → ℕ → Type 0
Begins ls n letter = get_or (get_or ls n []) 0 0 ≡ letter

-- line n is a note: an L line with a G line before it and none after it
pub record IsNote (ls : List (List ℕ)) (n : ℕ) : Type 0 where
  pub remark : Begins ls n (code "L")
  pub signed : ℕ
  pub before : signed < n
  pub signs : Begins ls signed (code "G")
  pub last : (i : ℕ) → n < i → Begins ls i (code "G") → ⊥

-- the byte of line n: the mark where it is a note, else its letter
pub data IsKind (ls : List (List ℕ)) (n : ℕ) : ℕ → Type 0 where
  note : IsNote ls n → IsKind ls n note_mark
  letter : (IsNote ls n → ⊥) → IsKind ls n (get_or (get_or ls n []) 0 0)

-- what is refused, in this order: the file's own; then 18 where there are fewer bytes than lines, with no line and no byte
pub data KindsRefused (file : List ℕ) (room : ℕ) : ℕ → ℕ → ℕ → Type 0 where
  own : {n l b : ℕ} → Refused kinds_seal file None n l b → KindsRefused file room n l b
  short : (m : Meets kinds_seal file) → room < length (lines_in m.parts) → KindsRefused file room 18 0 0

-- the bytes of lines other than L lines, in their order
unfoldable pub besides_l : List ℕ → List ℕ
besides_l [] = []
besides_l (b ∷ l) = cond (eqb b (code "L") || eqb b note_mark) (besides_l l) (b ∷ besides_l l)

-- the bytes of lines other than I, J and M lines, in their order
unfoldable pub besides_layouts : List ℕ → List ℕ
besides_layouts [] = []
besides_layouts (b ∷ l) = cond (eqb b (code "I") || eqb b (code "J") || eqb b (code "M")) (besides_layouts l) (b ∷ besides_layouts l)
