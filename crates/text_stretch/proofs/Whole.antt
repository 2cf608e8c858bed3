-- A sheet's lines have room in a block of 64,800 bytes, so none is cut; and sheets one after the other are the lines of the whole track. Assumes nothing.
use Rattle.std.specs.Prelude.{None}
use Prim.Native.Nat.{ℕ, zero, suc, ◌+◌, ◌*◌, ◌≤◌}
use mathlib.Core.Bool.{Bool, true, false, cond}
use mathlib.Core.List.{List, [], ◌++◌, append_assoc}
use mathlib.Core.Path.{◌≡◌, refl, sym, ap, ◌∙◌}
use native.Mathlib.Nat.{zero-add, suc-add}
use native.Mathlib.Omega.{arith}
use borrow.Author.Tests.{ltb-false}
use lib.Dec.{ltb}
use lib.ListN.{length, length-append}
use Rattle.rules.specs.Families.{count_of}
use Rattle.rules.specs.Files.{verdict}
use Rattle.rules.specs.Refusals.{says}
use Rattle.rules.specs.declared.Family.TheVariants as family
use Rattle.rules.specs.declared.Flight.{Flight}
use Rattle.track_step.specs.Steps.{step_of}
use Rattle.track_rules.specs.Track.{track_seal, track_of}
use Rattle.track_rules.specs.declared.Progress.{Progress}
use Rattle.track_rules.specs.Stored.{fixes_from}
use Rattle.track_course.specs.Courses.{start_by, fix_size}
use Rattle.track.proofs.Tracking.{found_all}
use Rattle.text_pieces.specs.Buffer.{Shown}
use Rattle.text_pieces.proofs.Laws.{whole}
use Rattle.text_forms.specs.Forms.{line_as}
use Rattle.text_forms.specs.declared.Form.{Form}
use Rattle.text_forms.proofs.Room.{line_room}
use Rattle.text_stretch.specs.Sheets.{sheet_of, records_shown, lines_from, after_steps, SheetFilled}
use Rattle.text_stretch.specs.declared.Sheet.{Sheet}

-- ---- room

few_room : (left : ℕ) → sheet_of left ≤ 360
unfolding sheet_of
few_room left = by (ltb 360 left) refl
  where
    by : (t : Bool) → ltb 360 left ≡ t → cond t 360 left ≤ 360
    by true e = omega arith
    by false e = ltb-false 360 left e

lines_room : (form : Form) (file : List ℕ) (from : Progress) (n : ℕ) → length (lines_from form file from n) ≤ 180 * n
unfolding lines_from
lines_room form file from zero = omega arith
lines_room form file from (suc n) =
    let r = (step_of file from).found in
    simp length-append (omega (arith, line_room form r, lines_room form file (step_of file from).next n))

-- the lines stand whole at the front of such a block, and behind them it is as it was
pub sheet_whole : (form : Form) (file : List ℕ) (from : Progress) (left : ℕ) (block : List ℕ) (r : Sheet) (after : List ℕ) → SheetFilled form file from left block r after → 64800 ≤ length block
    → Shown (lines_from form file from (sheet_of left)) block r.used after
sheet_whole form file from left block r after s h = whole refl (omega (arith, few_room left, lines_room form file from (sheet_of left))) s.put

-- ---- sheets one after the other

pub sheets_join : (form : Form) (file : List ℕ) (from : Progress) (m n : ℕ) → lines_from form file from (m + n) ≡ lines_from form file from m ++ lines_from form file (after_steps file from m) n
unfolding lines_from after_steps
sheets_join form file from zero n = rw zero-add
sheets_join form file from (suc m) n =
    rw suc-add
    (ap (λ (l : List ℕ). line_as form (step_of file from).found ++ l) (sheets_join form file (step_of file from).next m n)
    ∙ sym (append_assoc (line_as form (step_of file from).found) (lines_from form file (step_of file from).next m) (lines_from form file (after_steps file (step_of file from).next m) n)))

-- ---- the lines of as many fixes as a file has are those of its track's records

lines_shown : (form : Form) (file : List ℕ) (from : Progress) (n : ℕ) → lines_from form file from n ≡ records_shown form (fixes_from (step_of file) from n)
unfolding lines_from records_shown fixes_from
lines_shown form file from zero = refl
lines_shown form file from (suc n) = ap (λ (l : List ℕ). line_as form (step_of file from).found ++ l) (lines_shown form file (step_of file from).next n)

pub track_whole : (form : Form) (file : List ℕ) (f : Flight) → verdict track_seal file None ≡ says f → lines_from form file (start_by (fix_size f) f.layouts.b) (count_of family.B f.counts) ≡ records_shown form (track_of file f.layouts.b)
track_whole form file f e = lines_shown form file (start_by (fix_size f) f.layouts.b) (count_of family.B f.counts) ∙ ap (records_shown form) (found_all file f e)
