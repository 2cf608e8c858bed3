-- The rows of a file are those of its lines of a family, one behind the other; and what is answered on the columns of an accepted file, by those rows. Assumes nothing.
use Rattle.std.specs.Prelude.{None}
use Prim.Native.Nat.{ℕ, suc, ◌<◌}
use mathlib.Core.Bool.{Bool, true, false, cond}
use mathlib.Core.List.{List, [], ◌∷◌, ◌++◌}
use mathlib.Core.Path.{◌≡◌, refl, sym, ◌∙◌, ap, ap₂}
use native.Mathlib.Omega.{arith}
use lib.Dec.{eqb}
use lib.IntN.{ℤ}
use lib.ListN.{length, get_or}
use Rattle.rules.specs.Families.{line_letter}
use Rattle.rules.specs.Files.{verdict}
use Rattle.rules.specs.Refusals.{Said, says}
use Rattle.rules.specs.Split.{Lines, end, broken, line}
use Rattle.rules.specs.declared.Family.{Family}
use Rattle.rules.specs.declared.Flight.{Flight}
use Rattle.rules.specs.declared.Layout.{Layout}
use Rattle.rules_laws.proofs.Splitting.{texts_of}
use Rattle.grammar.specs.Coming.{those}
use Rattle.grammar.proofs.Leading.{letter_tests}
use Rattle.grammar_wider.specs.Before.{lines_of_family}
use Rattle.columns.specs.Columns.{columns_seal, row_in, rows_in, Grid, grid_of, grid_said, lines_said, numbers_in, over}
use Rattle.claims_lasting.specs.Lasting.{SameColumns}

-- ---- rows

-- the rows of some lines, one behind the other
abbrev pub joined : (List ℕ → List ℤ) → List (List ℕ) → List ℤ
joined row [] = []
joined row (l ∷ ls) = row l ++ joined row ls

-- of a file: those of its lines with the family's letter
pub rows_those : (g : Family) (layout : Layout) (names : List (List ℕ)) (k : Lines) → rows_in g layout names k ≡ joined (row_in g layout names) (those (line_letter g) (texts_of k))
unfolding rows_in those
rows_those g layout names end = refl
rows_those g layout names (broken n) = refl
rows_those g layout names (line t ls) = by (eqb (get_or t 0 0) (line_letter g)) (rows_those g layout names ls)
  where
    by : (b : Bool) → rows_in g layout names ls ≡ joined (row_in g layout names) (those (line_letter g) (texts_of ls))
        → cond b (row_in g layout names t ++ rows_in g layout names ls) (rows_in g layout names ls) ≡ joined (row_in g layout names) (cond b (t ∷ those (line_letter g) (texts_of ls)) (those (line_letter g) (texts_of ls)))
    by true e = ap (λ (l : List ℤ). row_in g layout names t ++ l) e
    by false e = e

-- which are the lines of the family
pub family_those : (g : Family) (k : Lines) → those (line_letter g) (texts_of k) ≡ lines_of_family g k
unfolding those
family_those g end = refl
family_those g (broken n) = refl
family_those g (line t ls) = rw (((letter_tests t).2 g).0, family_those g ls)

-- as many lines, each with the row of the one at its place
pub joined_same : (row row' : List ℕ → List ℤ) (ls ls' : List (List ℕ)) → length ls' ≡ length ls → ((n : ℕ) → n < length ls → row' (get_or ls' n []) ≡ row (get_or ls n []))
    → joined row' ls' ≡ joined row ls
joined_same row row' [] [] e h = refl
joined_same row row' [] (y ∷ ys) e h = absurd (omega (arith, e))
joined_same row row' (x ∷ xs) [] e h = absurd (omega (arith, e))
joined_same row row' (x ∷ xs) (y ∷ ys) e h = ap₂ (λ (a b : List ℤ). a ++ b) (h 0 (omega arith)) (joined_same row row' xs ys (omega (arith, e)) (λ n p. h (suc n) (omega arith)))

-- ---- what is answered

-- the same is said, and the same numbers are stored
abbrev pub Alike : List ℕ → List ℕ → List ℕ → Said Grid → Said Grid → Type 0
Alike file other codes s s' = (lines_said s' ≡ lines_said s) × (numbers_in other codes s' ≡ numbers_in file codes s)

-- an accepted file, by what is said of it
said_by : (file : List ℕ) (f : Flight) → verdict columns_seal file None ≡ says f → (letter : ℕ) (codes : List ℕ) (room : ℕ) → grid_said file letter codes room ≡ grid_of f letter codes room
unfolding grid_said
said_by file f e letter codes room = rw e

pub columns_by : (file other : List ℕ) (f g : Flight) → verdict columns_seal file None ≡ says f → verdict columns_seal other None ≡ says g → (letter : ℕ) (codes : List ℕ) (list : List ℤ)
    → Alike file other codes (grid_of f letter codes (length list)) (grid_of g letter codes (length list)) → SameColumns file other letter codes list
columns_by file other f g p q letter codes list x =
    let a = said_by file f p letter codes (length list) in
    let b = said_by other g q letter codes (length list) in
    record {
      said = ap lines_said b ∙ x.0 ∙ sym (ap lines_said a);
      after =
          ap (λ (s : Said Grid). over (numbers_in other codes s) list) b ∙ ap (λ (l : List ℤ). over l list) x.1 ∙ sym (ap (λ (s : Said Grid). over (numbers_in file codes s) list) a);
    }
