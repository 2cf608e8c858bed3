-- What is demanded of the declaration of a whole file, said over the lines of the file and over the single readers of a head's and a point's line.
use Rattle.std.specs.Prelude.{ℕ, ◌+◌, ◌-◌, ◌*◌, ◌<◌, List, [], ◌∷◌, ◌++◌, ◌≡◌, length, get_or, take, drop, None}
use Prim.Native.Char.{code}
use Rattle.rules.specs.Choice.{part, Each}
use Rattle.rules.specs.Reads.{head_said, point_said}
use Rattle.rules.specs.Refusals.{says}
use Rattle.rules.specs.declared.Point.{Point}
use Rattle.grammar.specs.Faults.{Refused}
use Rattle.grammar.specs.Grammar.{Meets, lines_in, beginning}
use Rattle.grammar.specs.Readings.{NoC, total}
use Rattle.declaration.specs.Declaration.{declaration_seal, undeclared}
use Rattle.declaration.specs.declared.Declared.{Declared}

-- how many C lines there are behind the first
abbrev pub point_lines : List (List ℕ) → ℕ
point_lines lines = beginning (code "C") lines - 1

-- what is refused, in this order: the file's own; then 18, with no line and no byte
pub data DeclarationRefused (file : List ℕ) (room : ℕ) : ℕ → ℕ → ℕ → Type 0 where
  own : {n l b : ℕ} → Refused declaration_seal file None n l b → DeclarationRefused file room n l b
  short : (m : Meets declaration_seal file) → room < point_lines (lines_in m.parts) * 6 → DeclarationRefused file room 18 0 0

-- what is told of a head's line that stands behind these lines: what its single reader says, its number, and the bytes behind its first 25
pub record TellsHead (file : List ℕ) (before : List (List ℕ)) (l : List ℕ) (d : Declared) : Type 0 where
  pub head : head_said l ≡ says d.head
  pub points : d.points ≡ d.head.turns + 4
  pub line : d.line ≡ length before + 1
  pub starts : d.text ≡ total before + 25
  pub long : d.length ≡ length l - 25
  pub text : part d.text (d.text + d.length) file ≡ drop 25 l

-- what is told, by six numbers, of a point's line that stands behind `at` bytes: what its single reader says, and the bytes behind its first 18
pub record TellsPoint (file : List ℕ) (at : ℕ) (l : List ℕ) (latitude north longitude east starts long : ℕ) : Type 0 where
  pub point : Point
  pub reads : point_said l ≡ says point
  pub latitudes : latitude ≡ point.lat.count
  pub norths : north ≡ point.lat.letter
  pub longitudes : longitude ≡ point.lon.count
  pub easts : east ≡ point.lon.letter
  pub place : starts ≡ at + 18
  pub wide : long ≡ length l - 18
  pub text : part starts (starts + long) file ≡ drop 18 l

-- of point i, counted from 0, the six numbers stand behind 6 * i
abbrev pub TellsPointAt : List ℕ → ℕ → List ℕ → List ℕ → ℕ → Type 0
TellsPointAt file at l list i =
    TellsPoint file at l (get_or list (i * 6) 0) (get_or list (i * 6 + 1) 0) (get_or list (i * 6 + 2) 0) (get_or list (i * 6 + 3) 0) (get_or list (i * 6 + 4) 0) (get_or list (i * 6 + 5) 0)

-- there is no C line, and all is zero; or the first is the head, the points stand at once behind it, and there is no other
pub data Tells (file : List ℕ) (lines : List (List ℕ)) (d : Declared) (after : List ℕ) : Type 0 where
  tells_none : Each NoC lines → d ≡ undeclared → Tells file lines d after
  tells_all : (before : List (List ℕ)) (head : List ℕ) (points later : List (List ℕ))
      → lines ≡ before ++ (head ∷ (points ++ later))
      → Each NoC before
      → Each (λ l. get_or l 0 0 ≡ code "C") points
      → Each NoC later
      → TellsHead file before head d
      → d.points ≡ length points
      → ((i : ℕ) → i < length points → TellsPointAt file (total before + length head + 2 + total (take i points)) (get_or points i []) after i)
      → Tells file lines d after

-- ---- two files whose C lines are the same

-- point i, but for where its text starts
pub record SamePoint (after after' : List ℕ) (i : ℕ) : Type 0 where
  pub latitude : get_or after' (i * 6) 0 ≡ get_or after (i * 6) 0
  pub north : get_or after' (i * 6 + 1) 0 ≡ get_or after (i * 6 + 1) 0
  pub longitude : get_or after' (i * 6 + 2) 0 ≡ get_or after (i * 6 + 2) 0
  pub east : get_or after' (i * 6 + 3) 0 ≡ get_or after (i * 6 + 3) 0
  pub long : get_or after' (i * 6 + 5) 0 ≡ get_or after (i * 6 + 5) 0

-- all that is told, but for the number of the head's line and where texts start
pub record SameButPlaces (d d' : Declared) (after after' : List ℕ) : Type 0 where
  pub head : d'.head ≡ d.head
  pub points : d'.points ≡ d.points
  pub long : d'.length ≡ d.length
  pub each : (i : ℕ) → i < d.points → SamePoint after after' i
