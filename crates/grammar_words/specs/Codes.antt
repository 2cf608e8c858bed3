-- Document 01, 'I and J layouts': the listed codes as it prints them, and what their columns hold.
use Rattle.std.specs.Prelude.{ℕ, true, List, [], ◌∷◌, ◌↔◌, ◌≡◌}
use Prim.Native.Char.{code}
use Prim.Native.String.{String}
use Rattle.rules.specs.Choice.{bytes, Each}
use Rattle.rules.specs.Listed.{code_text}
use Rattle.rules.specs.declared.Listed.{Listed}
use Rattle.grammar_words.specs.Characters.{IsDigit}

-- one listed code: its three characters, its least and its most width
pub record Row : Type 0 where
  pub name : List ℕ
  pub least : ℕ
  pub most : ℕ

abbrev pub row : String → ℕ → ℕ → Row
unfolding bytes
row name least most = record { name = bytes name; least = least; most = most }

-- "Listed codes, numbered 0 to 14 in this order, with least and most width: FXA 3 3, SIU 2 2, ENL 3 3, MOP 3 3, IAS 3 3, FLP 3 3, HDM 3 6, HDT 3 6, TRM 3 6, TRT 3 6,
-- TDS 1 3, LAD 1 4, LOD 1 4, DAE 2 6, DAN 2 6"
unfoldable pub rows : List Row
unfolding bytes
rows =
    row "FXA" 3 3 ∷
    row "SIU" 2 2 ∷
    row "ENL" 3 3 ∷
    row "MOP" 3 3 ∷
    row "IAS" 3 3 ∷
    row "FLP" 3 3 ∷
    row "HDM" 3 6 ∷
    row "HDT" 3 6 ∷
    row "TRM" 3 6 ∷
    row "TRT" 3 6 ∷
    row "TDS" 1 3 ∷
    row "LAD" 1 4 ∷
    row "LOD" 1 4 ∷
    row "DAE" 2 6 ∷
    row "DAN" 2 6 ∷
    []

-- "FLP, DAE, DAN may have a minus first"
pub data MayHaveMinus : List ℕ → Type 0 where
  flp : MayHaveMinus (bytes "FLP")
  dae : MayHaveMinus (bytes "DAE")
  dan : MayHaveMinus (bytes "DAN")

-- what the row of a code says; of an unlisted code nothing: "An unlisted code may have any width and any text."
abbrev pub RowSays : ℕ → (Row → Type 0) → Type 0
RowSays x P = Each (λ r. code_text x ≡ r.name → P r) rows

-- "Their columns hold digits; FLP, DAE, DAN may have a minus first with at least one digit after it."
pub data Holds (name : List ℕ) : List ℕ → Type 0 where
  digits : {t : List ℕ} → Each IsDigit t → Holds name t
  minus : {d : ℕ} {t : List ℕ} → MayHaveMinus name → IsDigit d → Each IsDigit t → Holds name (code "-" ∷ d ∷ t)

-- a row of the rules' table says what this row says
pub record Same (r : Listed) (p : Row) : Type 0 where
  pub name : code_text r.code ≡ p.name
  pub least : r.least ≡ p.least
  pub most : r.most ≡ p.most
  pub sign : (r.sign ≡ true) ↔ MayHaveMinus p.name

-- row by row, as many in one table as in the other
abbrev pub SameRows : List Listed → List Row → Type 0
SameRows [] [] = Unit {0}
SameRows [] (p ∷ ps) = ⊥
SameRows (r ∷ rs) [] = ⊥
SameRows (r ∷ rs) (p ∷ ps) = Same r p × SameRows rs ps
