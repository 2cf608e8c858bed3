-- Where the first C line of a file stands: what the search for it ensures.
use Rattle.std.specs.Prelude.{ℕ, ◌+◌, ◌≤◌, List, ◌≡◌, length, drop, None, Option, Some}
use Rattle.rules.specs.Choice.{part}
use Rattle.rules.specs.Split.{lines_of}
use Rattle.declaration.specs.declared.Start.{Start}
use Rattle.declaration.specs.Declaration.{Placed, first_c}

-- the line lies in the file with its CR LF, and as many lines stand before it as can
pub record Lies (file : List ℕ) (s : Start) : Type 0 where
  pub ordered : s.at ≤ s.end
  pub inside : s.end + 2 ≤ length file
  pub few : s.lines ≤ s.at
  pub long : s.at + length (part s.at s.end file) ≡ s.end
  pub is : first_c 0 0 (lines_of file) ≡ Some (record { lines = s.lines; at = s.at; text = part s.at s.end file; later = lines_of (drop (s.end + 2) file) })

abbrev pub Found : List ℕ → Option Start → Type 0
Found file (Some s) = Lies file s
Found file None = first_c 0 0 (lines_of file) ≡ None
