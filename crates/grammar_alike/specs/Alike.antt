-- Two accepted files that say the same, but for their L lines: document 02, 'Notes tell nothing and change nothing', and 'Bring evening notes together'. What an accepted file says is told
-- by its lines of each kind.
use Rattle.std.specs.Prelude.{ℕ, Bool, cond, List, [], ◌∷◌, ◌≡◌, eqb, leb, length, get_or}
use Prim.Native.Char.{code}
use Rattle.rules.specs.Families.{line_letter, layout_letter, layout_of, count_of}
use Rattle.rules.specs.declared.Span.{Span}
use Rattle.rules.specs.Layouts.{empty_layout}
use Rattle.rules.specs.Looks.{look_said, look_text, look_number}
use Rattle.rules.specs.Reads.{reading, date_said, layout_said}
use Rattle.rules.specs.Refusals.{Said, says, and_then}
use Rattle.rules.specs.declared.Family.{Family}
use Rattle.rules.specs.declared.Flight.{Flight}
use Rattle.rules.specs.declared.Layout.{Layout}
use Rattle.rules.specs.declared.Signed.{Signed}
use Rattle.grammar.specs.Coming.{those}

-- an L line, by its first byte
abbrev pub is_l : List ℕ → Bool
is_l l = eqb (get_or l 0 0) (code "L")

-- "lines other than L lines", in their order
unfoldable pub without_l : List (List ℕ) → List (List ℕ)
without_l [] = []
without_l (l ∷ ls) = cond (is_l l) (without_l ls) (l ∷ without_l ls)

-- ---- what an accepted file says, told by its lines of each kind

-- the layout of a family, by the lines that tell it: that of the first; "or no such line", the empty one
abbrev pub LayoutBy : Family → Layout → List (List ℕ) → Type 0
LayoutBy x layout [] = layout ≡ empty_layout
LayoutBy x layout (l ∷ ls) = layout_said x l ≡ says layout

-- the date by the first H line, the layouts by the I, the J and the M line, the counts by the B, K and N lines, and whether it is signed by the G lines
pub record ByKind (f : Flight) (ls : List (List ℕ)) : Type 0 where
  pub date : date_said (get_or (those (code "H") ls) 0 []) ≡ says f.date
  pub layouts : (x : Family) → LayoutBy x (layout_of x f.layouts) (those (layout_letter x) ls)
  pub counts : (x : Family) → count_of x f.counts ≡ length (those (line_letter x) ls)
  pub signed : f.signed ≡ leb 1 (length (those (code "G") ls))

-- ---- two files

-- two files, of which their checks say f and g and which have the lines ls and ks, say the same
pub record SaysAlike (f : Flight) (ls : List (List ℕ)) (g : Flight) (ks : List (List ℕ)) : Type 0 where
  -- "the date, the I and J layouts, the count .. of B lines and of K lines", and of N lines
  pub date : g.date ≡ f.date
  pub layouts : g.layouts ≡ f.layouts
  pub counts : (x : Family) → count_of x g.counts ≡ count_of x f.counts
  -- "'signed' yes or no"
  pub signed : g.signed ≡ f.signed
  -- they have the same lines of each kind other than L: the nth B line, K line, N line, E line, F line, the lines of the declaration
  pub kinds : (letter : ℕ) → (letter ≡ code "L" → ⊥) → those letter ks ≡ those letter ls

-- ---- columns

-- the look for a code into the answer of a line's reading: where the column stands, and its number
abbrev pub span_in : Family → List ℕ → Layout → List ℕ → Said Span
span_in f l layout name = and_then (reading f l layout) λ r. look_said l r.entries name

abbrev pub number_of : Family → List ℕ → Layout → List ℕ → Said Signed
number_of f l layout name = and_then (reading f l layout) λ r. look_number l r.entries name

-- the column of that code is the same in two lines of a family, each with its layout: where it stands, its text, and its number
abbrev pub SameColumn : Family → List ℕ → List ℕ → Layout → List ℕ → Layout → Type 0
SameColumn f name k p l q =
    (span_in f k p name ≡ span_in f l q name)
    × (look_text k (span_in f k p name) ≡ look_text l (span_in f l q name))
    × (number_of f k p name ≡ number_of f l q name)
