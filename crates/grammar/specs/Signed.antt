-- Document 02, 'Flights without a signature': a G line of a file, told by its lines, apart from how the file is checked.
use Rattle.std.specs.Prelude.{ℕ, List, ◌∷◌, ◌++◌, ◌≡◌, get_or}
use Prim.Native.Char.{code}
use Rattle.rules.specs.Choice.{Each}
use Rattle.grammar.specs.Grammar.{IsText, join_lines}

-- "a G line exists": the file is its lines, each a text with its CR LF, and one of them begins with G
pub record HasGLine (file : List ℕ) : Type 0 where
  pub before : List (List ℕ)
  pub line : List ℕ
  pub after : List (List ℕ)
  pub bytes : file ≡ join_lines (before ++ (line ∷ after))
  pub texts : Each IsText (before ++ (line ∷ after))
  pub letter : get_or line 0 0 ≡ code "G"
