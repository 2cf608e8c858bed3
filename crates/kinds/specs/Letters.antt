-- The letters of lines, and where the notes among them begin: what the inner functions of this crate require and ensure.
use Rattle.std.specs.Prelude.{ℕ, suc, ◌≤◌, Bool, ◌||◌, cond, List, [], ◌∷◌, ◌≡◌, eqb, length}
use Prim.Native.Char.{code}
use Rattle.std.proofs.lemmas.List.Edits.{sets}
use Rattle.rules.specs.Split.{Lines, end, broken, line}
use Rattle.notes_rules.specs.Notes.{is_seal, sealed}
use Rattle.notes_common.proofs.Accepted.{Filled}
use Rattle.columns.specs.Lines.{Sized}
use Rattle.columns.specs.declared.Sizes.{Sizes}
use Rattle.kinds.specs.Kinds.{letter_of, note_mark}

-- the letter of each line
unfoldable pub letters_of : Lines → List ℕ
letters_of end = []
letters_of (broken n) = []
letters_of (line t ls) = letter_of t ∷ letters_of ls

-- how many lines there are up to the last G line, with it; none without one
unfoldable pub to_seal : Lines → ℕ
to_seal end = 0
to_seal (broken n) = 0
to_seal (line t ls) = cond (is_seal t || sealed ls) (suc (to_seal ls)) 0

-- how many lines come before the notes: all of them where there is no G line
abbrev pub notes_from : Lines → ℕ
notes_from k = cond (sealed k) (to_seal k) (length (letters_of k))

-- the byte of a line behind the last G line, by its letter
abbrev pub mark_of : ℕ → ℕ
mark_of b = cond (eqb b (code "L")) note_mark b

unfoldable pub marked : List ℕ → List ℕ
marked [] = []
marked (b ∷ l) = mark_of b ∷ marked l

-- every line is ended and none is empty; those of each family have its size
pub record Ready (s : Sizes) (k : Lines) : Type 0 where
  pub sized : Sized s k
  pub filled : Filled k

-- the letters stand at the list's front, and what is answered is how many lines come before the notes
pub record LettersPut (k : Lines) (list : List ℕ) (r : ℕ) (after : List ℕ) : Type 0 where
  pub before : r ≡ notes_from k
  pub letters : after ≡ sets list 0 (letters_of k)
