-- Document 02, 'The whole track for the map': the words of what is demanded of a track, said over the lines of the file, in the grammar's words.
use Rattle.std.specs.Prelude.{ℕ, ◌+◌, ◌≤◌, ◌<◌, cond, List, [], ◌∷◌, ◌++◌, ◌⊎◌, ◌≡◌, ltb, length, Some}
use Prim.Native.Char.{code}
use Rattle.rules.specs.Choice.{part, byte, Each}
use Rattle.rules.specs.Fields.{time_text}
use Rattle.rules.specs.Fixes.{plain_time}
use Rattle.rules.specs.Reads.{fix_said}
use Rattle.rules.specs.Refusals.{says}
use Rattle.rules.specs.declared.Bounds.{Bounds}
use Rattle.rules.specs.Split.{step_at}
use Rattle.rules.specs.declared.Layout.{Layout}
use Rattle.grammar_words.specs.Values.{IsTime}
use Rattle.grammar.specs.Coming.{IsTimed}
use Rattle.grammar.specs.FieldTexts.{Stood}
use Rattle.grammar.specs.Grammar.{IsBLine, Meets, lines_in, beginning}
use Rattle.track_rules.specs.Track.{track_seal}
use Rattle.track_rules.specs.declared.Record.{Record}

-- ---- the answer

-- "the count is the number of B lines": of the lines that the grammar finds those that begin with B
abbrev pub BLines : {file : List ℕ} → Meets track_seal file → ℕ
BLines m = beginning (code "B") (lines_in m.parts)

-- "then 18 if the list is short": the file meets the grammar, and the list has room for fewer records than there are B lines; the refusal is 18, with no line and no byte
pub record Short (file : List ℕ) (room n l b : ℕ) : Type 0 where
  pub number : n ≡ 18
  pub line : l ≡ 0
  pub byte : b ≡ 0
  pub meets : Meets track_seal file
  pub less : room < BLines meets

-- ---- "day number counted from 0"

-- the times along the time order: of each B, E, F, K and N line the time whose text stands at 2 to 7, and nothing of another line
pub data Times : List (List ℕ) → List ℕ → Type 0 where
  done : Times [] []
  timed : {l : List ℕ} {ls : List (List ℕ)} {t : ℕ} {ts : List ℕ} → IsTimed l → IsTime t → Stood l (byte 2) (time_text t) → Times ls ts → Times (l ∷ ls) (t ∷ ts)
  untimed : {l : List ℕ} {ls : List (List ℕ)} {ts : List ℕ} → (IsTimed l → ⊥) → Times ls ts → Times (l ∷ ls) ts

-- "rises at each fall over 43,200 along the time order": how many of these times fall by more than that from the one before, the first from `before`
unfoldable pub falls_from : ℕ → List ℕ → ℕ
falls_from before [] = 0
falls_from before (t ∷ ts) = cond (ltb (t + 43200) before) 1 0 + falls_from t ts

-- the first falls from none
abbrev pub falls : List ℕ → ℕ
falls [] = 0
falls (t ∷ ts) = falls_from t ts

-- ---- a record

-- "Record n is the nth B line's, its values after line and day those of the single fix reading": n B lines stand before the line; its number counts the lines from 1, its day the falls up
-- to it, its own time the last
pub record IsRecord (layout : Layout) (lines : List (List ℕ)) (n : ℕ) (r : Record) : Type 0 where
  pub before : List (List ℕ)
  pub line : List ℕ
  pub after : List (List ℕ)
  pub order : lines ≡ before ++ (line ∷ after)
  pub nth : beginning (code "B") before ≡ n
  pub number : r.line ≡ length before + 1
  pub times : List ℕ
  pub timed : Times (before ++ (line ∷ [])) times
  pub day : r.day ≡ falls times
  pub is : IsBLine layout r.fix line
  pub reads : fix_said line layout ≡ says r.fix

-- ---- days and times along a track

-- on a later day, or on the same day and no earlier: "Time order, day number and the listing still use the plain counts." (document 02)
abbrev pub NotBefore : Record → Record → Type 0
NotBefore a b = (a.day < b.day) ⊎ ((a.day ≡ b.day) × (plain_time a.fix ≤ plain_time b.fix))

-- no record is before one that stands earlier
abbrev pub Ordered : List Record → Type 0
Ordered [] = Unit {0}
Ordered (r ∷ rs) = Each (NotBefore r) rs × Ordered rs

-- ---- a line got by stepping

-- n steps of the reading place, from a place on, come to this line
pub data Reached (file : List ℕ) : ℕ → ℕ → List ℕ → Type 0 where
  first : {at next : ℕ} (b : Bounds) → step_at file at ≡ says (record { found = Some b; next = next }) → Reached file at 1 (part b.from b.to file)
  further : {at next n : ℕ} {l : List ℕ} (b : Bounds) → step_at file at ≡ says (record { found = Some b; next = next }) → Reached file next n l → Reached file at (n + 1) l
