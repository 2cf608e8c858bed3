-- The notes of two slices put one after the other: how far each slice is read, what comes next, and what stands in the output.
use Rattle.std.specs.Prelude.{ℕ, ◌+◌, ◌-◌, ◌≤◌, ◌<◌, Bool, true, false, List, [], ◌∷◌, ◌++◌, map, ◌≡◌, leb, length, take, drop}
use Rattle.std.specs.declared.cmp.Ordering.{Ordering}
use Rattle.std.specs.declared.cmp.Ordering.TheVariants.{Less, Greater}
use Rattle.std.proofs.lemmas.List.Edits.{sets}
use Rattle.rules.specs.Choice.{need}
use Rattle.notes_sorted.specs.Ways.{weave}
use Rattle.notes_rules.specs.Notes.{not_after, joined}
use Rattle.notes_rules.specs.Places.{text_at}
use Rattle.notes_compare.specs.Letters.{whose_of}
use Rattle.notes_runs.specs.Runs.{coming}
use Rattle.notes_place.specs.declared.Place.{Place}

-- ---- a slice, read run by run

-- the notes of the run from i on are the next ones
pub record Ready (s heads : List ℕ) (p : Place) : Type 0 where
  pub low : p.i ≤ p.n
  pub fits : p.n ≤ length heads
  pub is : drop p.i (take p.n heads) ≡ take (p.n - p.i) (coming s p.last)

-- and where the run is through, none is left
pub record Fine (s heads : List ℕ) (p : Place) : Type 0 where
  pub ready : Ready s heads p
  pub done : p.n ≤ p.i → coming s p.last ≡ []

-- a run that is fine, and no note taken
pub record Fresh (s heads : List ℕ) (p : Place) (heads' : List ℕ) (r : Place) : Type 0 where
  pub size : length heads' ≡ length heads
  pub same : r.last ≡ p.last
  pub fine : Fine s heads' r

-- one note taken
pub record Taken (s heads : List ℕ) (p r : Place) : Type 0 where
  pub ready : Ready s heads r
  pub is : coming s p.last ≡ r.last ∷ coming s r.last

-- ---- the output

-- afterwards it is the output with the text from a place on, as far as the text has room
pub record Fills (out : List ℕ) (at : ℕ) (text out' : List ℕ) : Type 0 where
  pub size : length out' ≡ length out
  pub is : out' ≡ sets out at text

-- a text with its CR LF
abbrev pub line : List ℕ → List ℕ
line t = t ++ 13 ∷ 10 ∷ []

pub record Emitted (s : List ℕ) (i : ℕ) (out : List ℕ) (at : ℕ) (out' : List ℕ) (r : ℕ) : Type 0 where
  pub fills : Fills out at (line (text_at s i)) out'
  pub length_is : r ≡ at + length (line (text_at s i))

-- ---- the two slices

-- whose text comes next: `Less` the first's, `Greater` the second's, `Equal` that of both
unfoldable pub choice : List (List ℕ) → List (List ℕ) → Ordering
choice [] B = Greater
choice (u ∷ A) [] = Less
choice (u ∷ A) (v ∷ B) = whose_of u v

-- the texts that come after `last`
abbrev pub texts : List ℕ → ℕ → List (List ℕ)
texts s last = map (text_at s) (coming s last)

pub record Chosen (a b : List ℕ) (x y : Place) (r : Ordering) : Type 0 where
  pub is : r ≡ choice (texts a x.last) (texts b y.last)
  pub first : (r ≡ Greater → ⊥) → x.i < x.n
  pub second : (r ≡ Less → ⊥) → y.i < y.n

-- the notes of both, woven into one, from here on
abbrev pub both : List ℕ → ℕ → List ℕ → ℕ → List ℕ
both a x b y = joined (weave not_after (texts a x) (texts b y))

pub record Turned (a b ha hb : List ℕ) (x y : Place) (out : List ℕ) (at : ℕ) (out' : List ℕ) (x' y' : Place) (at' : ℕ) : Type 0 where
  pub first : Ready a ha x'
  pub second : Ready b hb y'
  pub text : List ℕ
  pub is : both a x.last b y.last ≡ text ++ both a x'.last b y'.last
  pub reach : at' ≡ at + length text
  pub fills : Fills out at text out'
  pub fewer : length (coming a x'.last) + length (coming b y'.last) < length (coming a x.last) + length (coming b y.last)
  pub short : length text ≤ 16777218

pub record Over (x y : Place) (r : Bool) : Type 0 where
  pub yes_first : r ≡ true → x.n ≤ x.i
  pub yes_second : r ≡ true → y.n ≤ y.i
  pub not_yet : r ≡ false → x.n ≤ x.i → y.i < y.n

-- all notes of both: those that come after the end of each slice, where the empty text stands
unfoldable pub all : List ℕ → List ℕ → List ℕ
all a b = both a (length a) b (length b)

pub record Walked (a b : List ℕ) (from : ℕ) (out out' : List ℕ) (r : ℕ) : Type 0 where
  pub is : r ≡ from + length (all a b)
  pub fills : Fills out from (all a b) out'

-- ---- the promise

-- what is said where both slices and the front have at most 16,777,216 bytes, and else
abbrev pub if_small : {A : Type 0} → ℕ → List ℕ → List ℕ → A → A → A
if_small from a b other small =
    need (leb (length a) 16777216) other λ _.
    need (leb (length b) 16777216) other λ _.
    need (leb from 16777216) other λ _. small

-- the place after all notes of both, and the output with as many bytes of them as have room; 0, and the output as it was, where a slice or the front is too long
pub record NotesPut (a b : List ℕ) (from : ℕ) (out : List ℕ) (r : ℕ) (after : List ℕ) : Type 0 where
  pub told : r ≡ if_small from a b 0 (from + length (all a b))
  pub bytes : after ≡ if_small from a b out (sets out from (all a b))
