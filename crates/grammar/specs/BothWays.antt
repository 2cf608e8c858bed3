-- Document 01, the paragraph after the refusal table: what the reader and the writer of a kind of line have to do with one another. Said once, over what a line
-- reads as (`Reads l v`), the text of what is given, the test that the writer makes, and the limits of what is given. The limits
-- of a fix, a time, a head and a point know nothing of the reader; of a layout both test and limits are `allowed`, which the face ties to the grammar (`allowed_exactly`).
use Rattle.rules.specs.declared.Refusal.{Refusal}
use Rattle.std.specs.Prelude.{ℕ, ◌+◌, ◌<◌, ◌≤◌, Bool, true, List, ◌++◌, ◌↔◌, ◌⊎◌, ◌≡◌, length, take, drop, Result}
use Rattle.rules.specs.Choice.{part}
use Rattle.rules.specs.Refusals.{Said, says, refuses, no, result_told}
use Rattle.rules.specs.Writes.{crlf}
use Rattle.rules.specs.Promises.{Written}
use Rattle.rules.specs.declared.Reason.TheVariants.{BadValue, NoRoom}
use Rattle.rules.specs.declared.Layout.{Layout}

-- "Each written line goes into the lent output from a given place on, and bytes outside the line and its CR LF stay."; the answer is the place after them
pub record InOutput (l : List ℕ) (place : ℕ) (out : List ℕ) (answer : Said ℕ) (after : List ℕ) : Type 0 where
  pub next : answer ≡ says (place + length l + 2)
  pub line : part place (place + length l + 2) after ≡ l ++ crlf
  pub before : take place after ≡ take place out
  pub behind : drop (place + length l + 2) after ≡ drop (place + length l + 2) out

-- "Writers take what the readings give, columns and other text as bytes": the value that a line says, and the bytes behind its fields (of a head and a point what `head_rest`
-- and `point_rest` give)
abbrev pub ReadsAs : {A : Type 0} → (List ℕ → Said A) → ℕ → List ℕ → A × List ℕ → Type 0
ReadsAs said fields l v = (said l ≡ says v.0) × (drop fields l ≡ v.1)

-- a layout as the library takes it: a count and 13 entries, of which the count's are used
pub record Slotted : Type 0 where
  pub layout : Layout
  pub slots : length layout.entries ≡ 13

-- what holds of an answer r and an output afterwards, whenever the writer's promise does
pub record Ways {A : Type 0} (Reads : List ℕ → A → Type 0) (v : A) (place : ℕ) (out : List ℕ) (r : Result ℕ Refusal) (after : List ℕ) : Type 0 where
  -- what is read from a line and written where there is room is that line and its CR LF
  pub read_then_write : (l : List ℕ) → Reads l v → place + length l + 2 ≤ length out → InOutput l place out (result_told r) after
  -- where something is written, it is a line and its CR LF, and that line reads as what was given
  pub write_then_read : (n : ℕ) → result_told r ≡ says n → (l : List ℕ) × Reads l v × InOutput l place out (result_told r) after
  -- "A writer gives 17 exactly when no line that passes 7 to 13 reads as the values given."
  pub bad_value_exactly : (result_told r ≡ no BadValue 0) ↔ ((l : List ℕ) → Reads l v → ⊥)
  -- "18 NO_ROOM: output shorter than place + length + 2"; "Writers test 17 before 18"
  pub no_room_exactly : (result_told r ≡ no NoRoom 0) ↔ ((l : List ℕ) × Reads l v × (length out < place + length l + 2))
  -- there is no other refusal, and "a refused write changes no byte"
  pub refused : (n l b : ℕ) → result_told r ≡ refuses n l b → ((result_told r ≡ no BadValue 0) ⊎ (result_told r ≡ no NoRoom 0)) × (after ≡ out)

-- the reader and the writer of a kind of line; a reader that refuses everything, or always says the same, is none (proofs/Writers)
pub record BothWays {A : Type 0} (Reads : List ℕ → A → Type 0) (text : A → List ℕ) (test limits : A → Bool) : Type 0 where
  -- a line reads as values exactly when it is their text and they are within their limits
  pub reads_exactly : (l : List ℕ) (v : A) → Reads l v ↔ ((l ≡ text v) × (limits v ≡ true))
  -- which is what the writer tests
  pub tested : (v : A) → test v ≡ limits v
  -- and so, of every answer and output that the writer's promise allows
  pub writes : (v : A) (place : ℕ) (out : List ℕ) (r : Result ℕ Refusal) (after : List ℕ) → Written (test v) (text v) place out r after → Ways Reads v place out r after
