-- Document 01, 'Refusal numbers': what each refusal of a file means, told by its lines, apart from how the file is checked.
use Rattle.std.specs.Prelude.{ℕ, ◌+◌, ◌≤◌, ◌<◌, List, [], ◌∷◌, ◌++◌, ◌⊎◌, ◌≡◌, length, get_or, Option, Some}
use Prim.Native.Char.{code}
use Rattle.rules.specs.Choice.{Each}
use Rattle.rules.specs.declared.Seal.{Seal}
use Rattle.rules.specs.declared.Seal.TheVariants as seal
use Rattle.grammar.specs.Grammar.{IsText, join_lines, beginning, Fits}
use Rattle.grammar.specs.Coming.{Open}
use Rattle.grammar.specs.Checks.{AllPass, FailsFirst, checks_of}

-- each line passes all its checks after those before it: these, and the lines between
abbrev pub PassAfter : List (List ℕ) → List (List ℕ) → Type 0
PassAfter before [] = Unit {0}
PassAfter before (l ∷ ls) = AllPass (checks_of before l) × PassAfter (before ++ (l ∷ [])) ls

-- the lines before: the file is of a size to be read, they stand at its front, they pass, and the table, where one is lent, has an entry for each
pub record Before (file : List ℕ) (room : Option ℕ) (lines : List (List ℕ)) (rest : List ℕ) : Type 0 where
  pub least : 1 ≤ length file
  pub most : length file ≤ 16777216
  pub bytes : file ≡ join_lines lines ++ rest
  pub texts : Each IsText lines
  pub passes : PassAfter [] lines
  pub fits : Fits room (length lines)

-- "first CR or LF is not CR LF, or none comes", behind n bytes of text
pub data NoEnd : List ℕ → ℕ → Type 0 where
  none_comes : (t : List ℕ) → IsText t → 1 ≤ length t → NoEnd t (length t)
  lf_alone : (t rest : List ℕ) → IsText t → NoEnd (t ++ (10 ∷ rest)) (length t)
  cr_alone : (t rest : List ℕ) → IsText t → (get_or rest 0 0 ≡ 10 → ⊥) → NoEnd (t ++ (13 ∷ rest)) (length t)

-- what the check asks for at the end is missing. In the usual check: "a file that ends before its second line"; in the strict one: "At least one G is needed (h).", and no G
-- line came
abbrev pub Unsealed : Seal → List (List ℕ) → Type 0
Unsealed seal.Usual lines = length lines < 2
Unsealed seal.Strict lines = beginning (code "G") lines ≡ 0

-- a refusal of a file: its number, line and byte
pub data Refused (seal : Seal) (file : List ℕ) (room : Option ℕ) : ℕ → ℕ → ℕ → Type 0 where
  -- "1 EMPTY: no bytes; 0, 0"
  empty : length file ≡ 0 → Refused seal file room 1 0 0
  -- "2 TOO_LONG: over the limit; 0, 0"
  too_long : 16777216 < length file → Refused seal file room 2 0 0
  -- "3 LINE_END: first CR or LF is not CR LF, or none comes; line, one past the text before it"
  line_end : (lines : List (List ℕ)) (rest : List ℕ) (n : ℕ) → Before file room lines rest → NoEnd rest n
      → Refused seal file room 3 (length lines + 1) (n + 1)
  -- 4 to 14: "The answer is the first refusal"; in the line every check before passes, and this one fails
  in_line : (lines : List (List ℕ)) (l rest : List ℕ) (n b : ℕ) → Before file room lines (l ++ (13 ∷ 10 ∷ rest)) → IsText l
      → FailsFirst (checks_of lines l) n b → Refused seal file room n (length lines + 1) b
  -- "15 TABLE_FULL: good line, no entry left; line, 0"
  table_full : (lines : List (List ℕ)) (l rest : List ℕ) → Before file room lines (l ++ (13 ∷ 10 ∷ rest)) → IsText l
      → AllPass (checks_of lines l) → room ≡ Some (length lines) → Refused seal file room 15 (length lines + 1) 0
  -- "16 ENDS_EARLY: end inside a declaration or without G; lines + 1, 0"; "16 in the usual check only for an unfinished declaration, and for a file that ends before its
  -- second line"
  ends_early : (lines : List (List ℕ)) → Before file room lines [] → Open lines ⊎ Unsealed seal lines
      → Refused seal file room 16 (length lines + 1) 0
