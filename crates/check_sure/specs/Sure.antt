-- A line with columns that is surely good: its bytes are mild, and so valid in every line, its fields keep their rules, its position is below the limits, and its columns hold what the
-- pattern of their layout says.
use Rattle.std.specs.Prelude.{ℕ, Bool, true, not, cond, ◌&&◌, ◌||◌, List, [], ◌∷◌, ◌≡◌, eqb, length, get_or, drop, replicate, None, Option, Some}
use Rattle.std.proofs.lemmas.List.Edits.{sets}
use Rattle.rules.specs.Families.{first_start}
use Rattle.rules.specs.Choice.{given, need, part, byte}
use Rattle.rules.specs.Fields.{time_at}
use Rattle.rules.specs.Layouts.{entries_of}
use Rattle.rules.specs.Lines.{fix_fields, at_limit}
use Rattle.rules.specs.Listed.{is_digits, keeps_sign, keeps_rule}
use Rattle.rules.specs.Refusals.{Said, says, refuses}
use Rattle.rules.specs.declared.Entry.{Entry}
use Rattle.rules.specs.declared.Family.{Family}
use Rattle.rules.specs.declared.Family.TheVariants as family
use Rattle.rules.specs.declared.FixFields.{FixFields}
use Rattle.rules.specs.declared.Layout.{Layout}
use Rattle.byte_sweep.specs.Plain.{is_plain, is_mild, every}
use Rattle.check_front.specs.Front.{is_front}

-- what the column of a code must hold: 0 any text, 1 digits, 2 digits that may follow a minus; told by a letter and by a minus with a digit
unfoldable pub rule_of : ℕ → ℕ
rule_of code = cond (keeps_rule code (65 ∷ [])) 0 (cond (keeps_rule code (45 ∷ 48 ∷ [])) 2 1)

-- a text that holds what such a column must
unfoldable pub keeps_as : ℕ → List ℕ → Bool
keeps_as rule t = cond (eqb rule 0) true (keeps_sign (eqb rule 2) t)

-- the pattern of columns: for each its first and last byte and what it must hold
unfoldable pub pattern_of : List Entry → List ℕ
pattern_of [] = []
pattern_of (e ∷ es) = e.first ∷ e.last ∷ rule_of e.code ∷ pattern_of es

-- every column of a line holds what a pattern says
unfoldable pub keeps_pattern : List ℕ → List ℕ → Bool
keeps_pattern l [] = true
keeps_pattern l (a ∷ []) = true
keeps_pattern l (a ∷ e ∷ []) = true
keeps_pattern l (a ∷ e ∷ rule ∷ rest) = keeps_as rule (part (byte a) e l) && keeps_pattern l rest

-- the time of a fix with both coordinates below their limits: at a limit the digits of LAD and LOD would have to be looked at
unfoldable pub below_time : FixFields → Option ℕ
below_time f =
    need (not (at_limit f).lat) None λ _.
    need (not (at_limit f).lon) None λ _.
    Some f.time

abbrev pub time_of : Said FixFields → Option ℕ
time_of (says f) = below_time f
time_of (refuses n l b) = None

-- the time of a line whose fields before the columns keep their rules, below the limits
unfoldable pub fields_time : Family → List ℕ → Option ℕ
fields_time family.B l = time_of (fix_fields l)
fields_time (family.Extra e) l = time_at l 1

-- the time of a line with mild bytes alone whose fields before the columns keep their rules
unfoldable pub clean_time : Family → List ℕ → Option ℕ
clean_time f l = need (every is_mild l) None λ _. fields_time f l

-- the same, where its columns hold what a pattern says
unfoldable pub pattern_time : Family → List ℕ → List ℕ → Option ℕ
pattern_time f l pattern = need (keeps_pattern l pattern) None λ _. clean_time f l

-- the bytes between the time and the columns tell that the fields there keep their rules; a K or an N line has none there
abbrev pub is_open : Family → List ℕ → Bool
is_open family.B l = is_front l
is_open (family.Extra e) l = true

-- the same, and the first byte is plain
unfoldable pub is_easy : Family → List ℕ → Bool
is_easy f l = is_plain (get_or l 0 0) && is_open f l

-- the time of a line that is surely good, by its length and the pattern of its columns
unfoldable pub sure_time : Family → List ℕ → ℕ → List ℕ → Option ℕ
sure_time f l size pattern =
    need (eqb (length l) size) None λ _.
    need (every is_mild l) None λ _.
    given (fields_time f l) None λ t.
    need (is_digits (drop (byte (first_start f)) l) || keeps_pattern l pattern) None λ _.
    Some t

abbrev pub PatternGiven : Layout → List ℕ → Type 0
PatternGiven l r = r ≡ sets (replicate 39 0) 0 (pattern_of (entries_of l))

abbrev pub SureTold : Family → List ℕ → ℕ → List ℕ → Option ℕ → Type 0
SureTold f l size pattern r = r ≡ sure_time f l size pattern
