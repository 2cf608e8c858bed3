-- A track in a form, sheet by sheet: so many fixes, one after the other, and the promise of the function that puts them into a block.
use Rattle.std.specs.Prelude.{ℕ, zero, suc, ◌-◌, cond, List, [], ◌∷◌, ◌++◌, ◌≡◌, ltb}
use Rattle.track_step.specs.Steps.{step_of}
use Rattle.track_rules.specs.declared.Progress.{Progress}
use Rattle.track_rules.specs.declared.Record.{Record}
use Rattle.text_pieces.specs.Buffer.{PiecePut}
use Rattle.text_forms.specs.Forms.{line_as}
use Rattle.text_forms.specs.declared.Form.{Form}
use Rattle.text_stretch.specs.declared.Sheet.{Sheet}
use Rattle.text_stretch.specs.declared.Stretch.{Stretch}

-- how many of the fixes that are left go on one sheet
unfoldable pub sheet_of : ℕ → ℕ
sheet_of left = cond (ltb 360 left) 360 left

module _ (form : Form) where
  -- records in a form, one after the other
  unfoldable pub records_shown : List Record → List ℕ
  records_shown [] = []
  records_shown (r ∷ rs) = line_as form r ++ records_shown rs

  -- the next n fixes of a file in a form
  unfoldable pub lines_from : List ℕ → Progress → ℕ → List ℕ
  lines_from file from zero = []
  lines_from file from (suc n) = line_as form (step_of file from).found ++ lines_from file (step_of file from).next n

module _ (file : List ℕ) where
  -- how far the reading has come with them
  unfoldable pub after_steps : Progress → ℕ → Progress
  after_steps from zero = from
  after_steps from (suc n) = after_steps (step_of file from).next n

-- the next n fixes stand in the buffer from a place on, as far as there is room; the place behind them, and how far the reading has come
pub record StretchPut (form : Form) (file : List ℕ) (from : Progress) (n : ℕ) (out : List ℕ) (at : ℕ) (r : Stretch) (after : List ℕ) : Type 0 where
  pub put : PiecePut out at (lines_from form file from n) r.used after
  pub next : r.next ≡ after_steps file from n

-- the lines of the next fixes, as far as the block has room, stand at its front; how many bytes that are, how many fixes are left, and how far the reading has come
pub record SheetFilled (form : Form) (file : List ℕ) (from : Progress) (left : ℕ) (block : List ℕ) (r : Sheet) (after : List ℕ) : Type 0 where
  pub put : PiecePut block 0 (lines_from form file from (sheet_of left)) r.used after
  pub rest : r.left ≡ left - sheet_of left
  pub next : r.next ≡ after_steps file from (sheet_of left)
