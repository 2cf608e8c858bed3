-- Document 02, request 8: "Asking for a single column becomes a look into that answer." What a look says, whatever line and whatever entries it is given: the place of a code's
-- column, its text and its number.
use Rattle.std.specs.Prelude.{ℕ, ◌≤◌, ◌<◌, List, [], ◌∷◌, ◌++◌, ◌⊎◌, ◌↔◌, ◌≡◌, length}
use Rattle.rules.specs.Choice.{Each}
use Rattle.rules.specs.Refusals.{Said, says, refuses}
use Rattle.rules.specs.Listed.{code_text}
use Rattle.rules.specs.declared.Span.{Span}
use Rattle.rules.specs.Layouts.{span_of, entries_of}
use Rattle.rules.specs.Looks.{look_said, look_text, look_number}
use Rattle.rules.specs.declared.Signed.{Signed}
use Rattle.rules.specs.declared.Entry.{Entry}
use Rattle.rules.specs.declared.Layout.{Layout}
use Rattle.grammar.specs.Grammar.{width_of, Carries, bytes_of}
use Rattle.grammar.specs.Readings.{Spells}
use Rattle.grammar.specs.ReadersRefuse.{Once}

-- "17 for an answer with over 13 entries, a code twice or an entry not inside the line lent with it or with its last byte before its first"; bytes count from 1
pub data BadAnswer (l : List ℕ) (es : Layout) : Type 0 where
  over : 13 < es.count → BadAnswer l es
  twice : (before after : List Entry) (e : Entry) → entries_of es ≡ before ++ (e ∷ after) → Carries after (code_text e.code) → BadAnswer l es
  outside : (before after : List Entry) (e : Entry) → entries_of es ≡ before ++ (e ∷ after) → (e.first ≡ 0) ⊎ ((length l < e.last) ⊎ (e.last < e.first)) → BadAnswer l es

-- none of this is so
pub record GoodAnswer (l : List ℕ) (es : Layout) : Type 0 where
  pub few : es.count ≤ 13
  pub once : Once (entries_of es)
  pub inside : Each (λ e. (1 ≤ e.first) × (e.first ≤ e.last) × (e.last ≤ length l)) (entries_of es)

-- "the look gives 17 .., then 19": a bad answer; no entry has the code; else the first and the last byte of the entry that has it
pub data LookSays (l : List ℕ) (es : Layout) (name : List ℕ) : Said Span → Type 0 where
  bad : BadAnswer l es → LookSays l es name (refuses 17 0 0)
  absent : GoodAnswer l es → Each (λ e. code_text e.code ≡ name → ⊥) (entries_of es) → LookSays l es name (refuses 19 0 0)
  there : GoodAnswer l es → (c : Carries (entries_of es) name) → LookSays l es name (says (span_of c.entry))

-- "then 19, 20": what the look refuses; the column's bytes are not "1 to 18 digits, with or without a minus before them"; else the number that they spell
pub data NumberSays (l : List ℕ) (es : Layout) (name : List ℕ) : Said Signed → Type 0 where
  refused : (n k b : ℕ) → LookSays l es name (refuses n k b) → NumberSays l es name (refuses n k b)
  unspelt : GoodAnswer l es → (c : Carries (entries_of es) name) → ((z : Signed) → Spells (bytes_of c.entry l) z → ⊥) → NumberSays l es name (refuses 20 0 0)
  spelt : GoodAnswer l es → (c : Carries (entries_of es) name) (z : Signed) → Spells (bytes_of c.entry l) z → NumberSays l es name (says z)

-- of any line, any entries and any code a look says this and nothing else
pub record LooksExactly (l : List ℕ) (es : Layout) (name : List ℕ) : Type 0 where
  pub place : (s : Said Span) → (look_said l es name ≡ s) ↔ LookSays l es name s
  -- the text: the bytes from the entry's first to its last, so many; none where the look refuses
  pub text : GoodAnswer l es → (c : Carries (entries_of es) name) → (look_text l (look_said l es name) ≡ bytes_of c.entry l) × (length (bytes_of c.entry l) ≡ width_of c.entry)
  pub untold : (n k b : ℕ) → LookSays l es name (refuses n k b) → look_text l (look_said l es name) ≡ []
  pub number : (z : Said Signed) → (look_number l es name ≡ z) ↔ NumberSays l es name z
