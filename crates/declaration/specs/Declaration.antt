-- The declaration of a whole file: its head, the numbers of its points, what is said of them, the list afterwards, and the promise.
use Rattle.rules.specs.declared.Refusal.{Refusal}
use Rattle.std.specs.Prelude.{ℕ, zero, suc, ◌+◌, ◌-◌, ◌*◌, cond, List, [], ◌∷◌, ◌++◌, ◌≡◌, eqb, leb, length, get_or, None, Option, Result, Some}
use Prim.Native.Char.{code}
use Rattle.rules.specs.Choice.{need}
use Rattle.rules.specs.Files.{verdict, over}
use Rattle.rules.specs.Reads.{head_said, point_said}
use Rattle.rules.specs.Refusals.{Said, says, refuses, no, refusal, value_or, and_then, result_told}
use Rattle.rules.specs.Split.{Lines, end, broken, line, lines_of}
use Rattle.rules.specs.declared.Head.{Head}
use Rattle.rules.specs.declared.Point.{Point}
use Rattle.rules.specs.declared.Reason.TheVariants.{NoRoom}
use Rattle.rules.specs.declared.Seal.{Seal}
use Rattle.rules.specs.declared.Seal.TheVariants as seal
use Rattle.declaration.specs.declared.Declared.{Declared}

-- the usual check
abbrev pub declaration_seal : Seal
declaration_seal = seal.Usual

-- ---- the head

-- a head and a point of zeros
abbrev pub no_head : Head
no_head = record { declared = record { day = 0; month = 0; year = 0 }; time = 0; flight = None; task = 0; turns = 0 }

abbrev pub no_point : Point
no_point = record { lat = record { count = 0; letter = 0 }; lon = record { count = 0; letter = 0 } }

-- a line of a file: how many lines and bytes stand before it, its text, and the lines behind it
pub record Placed : Type 0 where
  pub lines : ℕ
  pub at : ℕ
  pub text : List ℕ
  pub later : Lines

-- the first line that begins with C, of lines that stand behind n lines and `at` bytes
unfoldable pub first_c : ℕ → ℕ → Lines → Option Placed
first_c n at end = None
first_c n at (broken k) = None
first_c n at (line t ls) =
    cond (eqb (get_or t 0 0) (code "C")) (Some (record { lines = n; at = at; text = t; later = ls })) (first_c (n + 1) (at + length t + 2) ls)

-- the head that a line says; its points are its turn points, take-off, start, finish and landing; its text stands behind 25 bytes
abbrev pub head_in : List ℕ → Head
head_in t = value_or no_head (head_said t)

abbrev pub declared_at : ℕ → ℕ → List ℕ → Declared
declared_at n at t = record { head = head_in t; points = (head_in t).turns + 4; line = n + 1; text = at + 25; length = length t - 25 }

-- no declaration
abbrev pub undeclared : Declared
undeclared = record { head = no_head; points = 0; line = 0; text = 0; length = 0 }

abbrev pub declared_in : Option Placed → Declared
declared_in None = undeclared
declared_in (Some p) = declared_at p.lines p.at p.text

-- ---- the points

-- six numbers of a point's line that stands behind `at` bytes: its position, and its text, which stands behind 18 bytes
abbrev pub point_in : List ℕ → Point
point_in t = value_or no_point (point_said t)

abbrev pub six_of : ℕ → List ℕ → List ℕ
six_of at t = (point_in t).lat.count ∷ (point_in t).lat.letter ∷ (point_in t).lon.count ∷ (point_in t).lon.letter ∷ (at + 18) ∷ (length t - 18) ∷ []

-- those of the first n lines, the first of which stands behind `at` bytes
unfoldable pub points_from : ℕ → ℕ → Lines → List ℕ
points_from zero at ls = []
points_from (suc n) at end = []
points_from (suc n) at (broken k) = []
points_from (suc n) at (line t ls) = six_of at t ++ points_from n (at + length t + 2) ls

-- the points follow their head at once
abbrev pub points_of : Placed → List ℕ
points_of p = points_from ((head_in p.text).turns + 4) (p.at + length p.text + 2) p.later

abbrev pub points_in : Option Placed → List ℕ
points_in None = []
points_in (Some p) = points_of p

-- ---- what is said

-- 18 where a list of `room` numbers has fewer than six for each point
unfoldable pub room_said : Option Placed → ℕ → Said (Option Placed)
room_said o room = need (leb ((declared_in o).points * 6) room) (no NoRoom 0) λ _. says o

-- the file's own refusal first
unfoldable pub placed_said : List ℕ → ℕ → Said (Option Placed)
placed_said file room = and_then (verdict declaration_seal file None) λ _. room_said (first_c 0 0 (lines_of file)) room

abbrev pub declared_said : Said (Option Placed) → Said Declared
declared_said s = and_then s λ o. says (declared_in o)

abbrev pub declaration_said : List ℕ → ℕ → Said Declared
declaration_said file room = declared_said (placed_said file room)

-- the numbers that are stored; none where refused
abbrev pub numbers_in : Said (Option Placed) → List ℕ
numbers_in (says o) = points_in o
numbers_in (refuses n l b) = []

-- the list afterwards
abbrev pub points_after : List ℕ → List ℕ → List ℕ
points_after file list = over (numbers_in (placed_said file (length list))) list

-- ---- the promises

-- the answer, in the paper's terms

-- the answer and the list afterwards, by what is said
pub record StartTold (s : Said (Option Placed)) (list : List ℕ) (r : Result Declared Refusal) (after : List ℕ) : Type 0 where
  pub told : result_told r ≡ declared_said s
  pub numbers : after ≡ over (numbers_in s) list

abbrev pub FileDeclared : List ℕ → List ℕ → Result Declared Refusal → List ℕ → Type 0
FileDeclared file list r after = StartTold (placed_said file (length list)) list r after
