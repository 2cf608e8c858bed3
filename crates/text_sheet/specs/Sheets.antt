-- The lines of a track for people, sheet by sheet: the lines of so many fixes, one after the other, and the promise of the function that puts them into a block.
use Rattle.std.specs.Prelude.{ℕ, zero, suc, ◌-◌, cond, List, [], ◌∷◌, ◌++◌, ◌≡◌, ltb}
use Rattle.track_step.specs.Steps.{step_of}
use Rattle.track_rules.specs.declared.Progress.{Progress}
use Rattle.track_rules.specs.declared.Record.{Record}
use Rattle.text_pieces.specs.Buffer.{PiecePut}
use Rattle.text_track.specs.Trail.{record_shown}
use Rattle.text_sheet.specs.declared.Sheet.{Sheet}

-- how many of the fixes that are left go on one sheet
unfoldable pub sheet_of : ℕ → ℕ
sheet_of left = cond (ltb 380 left) 380 left

-- a record's line
abbrev pub line_of : Record → List ℕ
line_of r = record_shown r.line r.day r.fix

-- the lines of records, one after the other
unfoldable pub records_shown : List Record → List ℕ
records_shown [] = []
records_shown (r ∷ rs) = line_of r ++ records_shown rs

module _ (file : List ℕ) where
  -- the lines of the next n fixes
  unfoldable pub lines_from : Progress → ℕ → List ℕ
  lines_from from zero = []
  lines_from from (suc n) = line_of (step_of file from).found ++ lines_from (step_of file from).next n

  -- how far the reading has come with them
  unfoldable pub after_steps : Progress → ℕ → Progress
  after_steps from zero = from
  after_steps from (suc n) = after_steps (step_of file from).next n

-- the lines of the next fixes, as far as the block has room, stand at its front; how many bytes that are, how many fixes are left, and how far the reading has come
pub record SheetFilled (file : List ℕ) (from : Progress) (left : ℕ) (block : List ℕ) (r : Sheet) (after : List ℕ) : Type 0 where
  pub put : PiecePut block 0 (lines_from file from (sheet_of left)) r.used after
  pub rest : r.left ≡ left - sheet_of left
  pub next : r.next ≡ after_steps file from (sheet_of left)
