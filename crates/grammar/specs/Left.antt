-- Document 01, 'Refusal numbers': that every input has one answer, and what a call leaves in what was lent to it, also where it refuses.
use Rattle.rules.specs.declared.Refusal.{Refusal}
use Rattle.std.specs.Prelude.{ℕ, List, [], ◌⊎◌, ◌≡◌, length, IsErr, Option, Result, Some}
use Rattle.rules.specs.Refusals.{Said, says, refuses, result_told}
use Rattle.rules.specs.Order.{no_flight}
use Rattle.rules.specs.Split.{bounds_of}
use Rattle.rules.specs.Reads.{reading, layout_said, head_said, point_said}
use Rattle.rules.specs.Looks.{look_said}
use Rattle.rules.specs.Promises.{FileJudged, LineTextGiven, LayoutGiven, HeadRest, PointRest, FixGiven, ExtraGiven, LookTextGiven}
use Rattle.rules.specs.declared.Layout.{Layout}
use Rattle.rules.specs.declared.Extra.{Extra}
use Rattle.rules.specs.declared.ExtraReading.{ExtraReading}
use Rattle.rules.specs.declared.Family.{Family}
use Rattle.rules.specs.declared.Family.TheVariants as family
use Rattle.rules.specs.declared.FixReading.{FixReading}
use Rattle.rules.specs.declared.Seal.{Seal}
use Rattle.rules.specs.declared.Checked.{Checked}
use Rattle.grammar.specs.Grammar.{lines_in, Fits, Meets, flight_of}
use Rattle.grammar.specs.Faults.{Refused, empty, too_long, line_end, in_line, table_full, ends_early}
use Rattle.grammar.specs.Readings.{Entered}

-- ---- "The answer is the first refusal, or: the date, the I and J layouts, the count of lines, of B lines and of K lines"; and the M layout and the count of N lines; "and answers 'signed' yes or no"

-- every file has an answer: it meets the grammar and its lines fit the table, or a refusal's meaning holds of it; never both, and never two refusals
pub record OneAnswer (seal : Seal) (file : List ℕ) (room : Option ℕ) : Type 0 where
  pub there : ((m : Meets seal file) × Fits room (length (lines_in m.parts))) ⊎ ((n : ℕ) × (l : ℕ) × (b : ℕ) × Refused seal file room n l b)
  pub not_both : (m : Meets seal file) → Fits room (length (lines_in m.parts)) → (n l b : ℕ) → Refused seal file room n l b → ⊥
  pub one_refusal : (n l b n' l' b' : ℕ) → Refused seal file room n l b → Refused seal file room n' l' b' → (n ≡ n') × (l ≡ l') × (b ≡ b')

-- ---- "The table gets entries for the lines before the faulty one (16 or accepted: all lines), the rest unchanged."

-- the lines before the faulty one; where the file has no bytes or too many, no line was looked at
abbrev pub lines_before : {seal : Seal} {file : List ℕ} {room : Option ℕ} {n l b : ℕ} → Refused seal file room n l b → List (List ℕ)
lines_before (empty e) = []
lines_before (too_long h) = []
lines_before (line_end lines rest n w e) = lines
lines_before (in_line lines l rest n b w t f) = lines
lines_before (table_full lines l rest w t p r) = lines
-- 16: "all lines"
lines_before (ends_early lines w e) = lines

-- what the check answers and leaves
pub record FileLeaves (seal : Seal) (file table : List ℕ) (r : Checked) (after : List ℕ) : Type 0 where
  pub accepted : result_told r.outcome ≡ says tt → (m : Meets seal file) × (r.flight ≡ flight_of m) × Entered (lines_in m.parts) table after
  -- "A refused reading returns no value": the flight beside the answer is empty
  pub refused : (n l b : ℕ) → result_told r.outcome ≡ refuses n l b
      → (w : Refused seal file (Some (length table)) n l b) × (r.flight ≡ no_flight) × Entered (lines_before w) table after

-- ---- "a refused write changes no byte"

-- of a writer's answer, and of the output as it was lent and as it is afterwards
abbrev pub WriteLeaves : Result ℕ Refusal → List ℕ → List ℕ → Type 0
WriteLeaves r out after = (n l b : ℕ) → result_told r ≡ refuses n l b → (l ≡ 0) × (b ≡ 0) × ((n ≡ 17) ⊎ (n ≡ 18)) × (after ≡ out)

-- ---- "A refused reading returns no value."

abbrev pub Refuses : {A : Type 0} → Said A → Type 0
Refuses s = (n : ℕ) × (l : ℕ) × (b : ℕ) × (s ≡ refuses n l b)

-- an answer holds a value or a refusal, never both; where that is a refusal, what is handed out as a part or stands beside the answer is empty, and an answer that would hold the value holds none
pub record NoValue : Type 0 where
  -- of a file that was checked with no table
  pub flight : (seal : Seal) (file : List ℕ) (r : Checked) → FileJudged seal file r → Refuses (result_told r.outcome) → r.flight ≡ no_flight
  -- the text of a line by its number, of a column, behind a head's fields, and behind a point's
  pub line : (file table : List ℕ) (n : ℕ) (r : List ℕ) → LineTextGiven file table n r → Refuses (bounds_of file table n) → r ≡ []
  pub column : (l : List ℕ) (es : Layout) (name r : List ℕ) → LookTextGiven l es name r → Refuses (look_said l es name) → r ≡ []
  pub head_text : (l r : List ℕ) → HeadRest l r → Refuses (head_said l) → r ≡ []
  pub point_text : (l r : List ℕ) → PointRest l r → Refuses (point_said l) → r ≡ []
  -- the value of a B line, and of a K or an N line, with the entries of its columns: there is neither
  pub fix : (l : List ℕ) (layout : Layout) (r : Result FixReading Refusal) → FixGiven l layout r → Refuses (reading family.B l layout) → IsErr r
  pub extra : (x : Extra) (l : List ℕ) (layout : Layout) (r : Result ExtraReading Refusal) → ExtraGiven x l layout r → Refuses (reading (family.Extra x) l layout) → IsErr r
  -- the layout of an I, a J or an M line: there is none
  pub layout : (f : Family) (l : List ℕ) (r : Result Layout Refusal) → LayoutGiven f l r → Refuses (layout_said f l) → IsErr r
