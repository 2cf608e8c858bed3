-- Document 02, request 8, "text and numbers are those of before": the column of a code in a line that was read, in the words of document 01.
use Rattle.std.specs.Prelude.{ℕ, ◌+◌, ◌-◌, ◌≤◌, List, [], ◌↔◌, ◌≡◌, length, get_or}
use Rattle.rules.specs.Choice.{Each}
use Rattle.rules.specs.Layouts.{span_of, entries_of}
use Rattle.rules.specs.Listed.{code_text}
use Rattle.rules.specs.Looks.{look_said, look_text, look_number}
use Rattle.rules.specs.Refusals.{says, refuses}
use Rattle.rules.specs.declared.Entry.{Entry}
use Rattle.rules.specs.declared.Layout.{Layout}
use Rattle.rules.specs.declared.Signed.{Signed}
use Rattle.grammar.specs.Grammar.{Carries}
use Rattle.grammar.specs.Readings.{Spells}

-- a text is a line's bytes from an entry's first to its last, byte by byte; bytes of a line count from 1
pub record IsTextOf (e : Entry) (l text : List ℕ) : Type 0 where
  pub long : length text + e.first ≡ e.last + 1
  pub bytes : (k : ℕ) → e.first ≤ k → k ≤ e.last → get_or text (k - e.first) 0 ≡ get_or l (k - 1) 0

-- a number is what a text spells: "1 to 18 digits, with or without a minus before them"; 20 exactly where it spells none
pub record NumberOfText (l : List ℕ) (es : Layout) (name text : List ℕ) : Type 0 where
  pub spelt : (z : Signed) → (look_number l es name ≡ says z) ↔ Spells text z
  pub unspelt : (look_number l es name ≡ refuses 20 0 0) ↔ ((z : Signed) → Spells text z → ⊥)

-- the look for a code: an entry has it, and its place, its text and its number are given; or none has it, and it is 19, with no text
pub data ColumnLooked (l : List ℕ) (es : Layout) (name : List ℕ) : Type 0 where
  there : (c : Carries (entries_of es) name) → look_said l es name ≡ says (span_of c.entry) → IsTextOf c.entry l (look_text l (look_said l es name))
      → NumberOfText l es name (look_text l (look_said l es name)) → ColumnLooked l es name
  absent : Each (λ e. code_text e.code ≡ name → ⊥) (entries_of es) → look_said l es name ≡ refuses 19 0 0 → look_text l (look_said l es name) ≡ [] → look_number l es name ≡ refuses 19 0 0
      → ColumnLooked l es name
