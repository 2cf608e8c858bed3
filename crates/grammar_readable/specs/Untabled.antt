-- What can be read of an accepted file where no table was lent: all that stands in the record Readable of demands, but for what is entered into a table and what is read with one.
use Rattle.std.specs.Prelude.{ℕ, List, [], ◌≡◌, length, get_or}
use Rattle.rules.specs.Choice.{Each}
use Rattle.rules.specs.Families.{line_letter, layout_letter, layout_of, count_of}
use Rattle.rules.specs.Layouts.{empty_layout}
use Rattle.rules.specs.Reads.{date_said}
use Rattle.rules.specs.declared.Family.{Family}
use Rattle.rules.specs.declared.Flight.{Flight}
use Rattle.grammar.specs.Grammar.{IsText, IsDateLine, join_lines, beginning}
use Rattle.grammar.specs.Readings.{ReadsValue, ReadsLine, ReadsLayout, ReadsPresence, ReadsDeclaration, total, Steps}

pub record ReadableUntabled (file : List ℕ) (f : Flight) : Type 0 where
  -- the lines that the file is cut into, and their bytes, which are all of the file's
  pub lines : List (List ℕ)
  pub bytes : file ≡ join_lines lines
  pub texts : Each IsText lines
  pub lengths : total lines ≡ length file
  -- the counts of the answer
  pub counted : f.lines ≡ length lines
  pub counts : (g : Family) → count_of g f.counts ≡ beginning (line_letter g) lines
  -- stepping from place 0 gives exactly the lines in their order, and then none
  pub stepping : Steps file 0 lines
  -- the date from line 2; each line by the layouts of the answer, column by column; a layout that no line tells is empty
  pub date : ReadsValue date_said IsDateLine f.date (get_or lines 1 [])
  pub reads : Each (ReadsLine f.layouts) lines
  pub untold : (g : Family) → Each (λ l. get_or l 0 0 ≡ layout_letter g → ⊥) lines → layout_of g f.layouts ≡ empty_layout
  -- the layouts themselves, and the declaration
  pub layouts : (g : Family) → ReadsLayout g (layout_of g f.layouts)
  pub presence : ReadsPresence f.layouts.b
  pub declaration : ReadsDeclaration lines
