-- A sheet's lines have room in a block of 64,000 bytes, so none is cut; and sheets one after the other are the lines of the whole track. Assumes nothing.
use Rattle.std.specs.Prelude.{None}
use Prim.Native.Nat.{ℕ, zero, suc, ◌+◌, ◌*◌, ◌≤◌}
use mathlib.Core.Bool.{Bool, true, false, cond}
use mathlib.Core.List.{List, [], ◌++◌, append_assoc}
use mathlib.Core.Path.{◌≡◌, refl, sym, ap, ◌∙◌}
use native.Mathlib.Nat.{zero-add, suc-add}
use native.Mathlib.Omega.{arith}
use borrow.Author.Tests.{ltb-false}
use lib.Dec.{ltb}
use lib.ListN.{length, length-append}
use Rattle.rules.specs.Families.{count_of}
use Rattle.rules.specs.Files.{verdict}
use Rattle.rules.specs.Refusals.{says}
use Rattle.rules.specs.declared.Family.TheVariants as family
use Rattle.rules.specs.declared.Flight.{Flight}
use Rattle.track_step.specs.Steps.{step_of}
use Rattle.track_rules.specs.Track.{track_seal, track_of}
use Rattle.track_rules.specs.declared.Progress.{Progress}
use Rattle.track_rules.specs.Stored.{fixes_from}
use Rattle.track_course.specs.Courses.{start_by, fix_size}
use Rattle.track.proofs.Tracking.{found_all}
use Rattle.text_pieces.specs.Buffer.{Shown}
use Rattle.text_pieces.proofs.Laws.{whole}
use Rattle.text_track.proofs.Room.{record_room}
use Rattle.text_sheet.specs.Sheets.{sheet_of, line_of, records_shown, lines_from, after_steps, SheetFilled}
use Rattle.text_sheet.specs.declared.Sheet.{Sheet}

-- ---- room

few_room : (left : ℕ) → sheet_of left ≤ 380
unfolding sheet_of
few_room left = by (ltb 380 left) refl
  where
    by : (t : Bool) → ltb 380 left ≡ t → cond t 380 left ≤ 380
    by true e = omega arith
    by false e = ltb-false 380 left e

lines_room : (file : List ℕ) (from : Progress) (n : ℕ) → length (lines_from file from n) ≤ 168 * n
unfolding lines_from
lines_room file from zero = omega arith
lines_room file from (suc n) =
    let r = (step_of file from).found in
    simp length-append (omega (arith, record_room r.line r.day r.fix, lines_room file (step_of file from).next n))

-- the lines stand whole at the front of such a block, and behind them it is as it was
pub sheet_whole : (file : List ℕ) (from : Progress) (left : ℕ) (block : List ℕ) (r : Sheet) (after : List ℕ) → SheetFilled file from left block r after → 64000 ≤ length block
    → Shown (lines_from file from (sheet_of left)) block r.used after
sheet_whole file from left block r after s h = whole refl (omega (arith, few_room left, lines_room file from (sheet_of left))) s.put

-- ---- sheets one after the other

pub sheets_join : (file : List ℕ) (from : Progress) (m n : ℕ) → lines_from file from (m + n) ≡ lines_from file from m ++ lines_from file (after_steps file from m) n
unfolding lines_from after_steps
sheets_join file from zero n = rw zero-add
sheets_join file from (suc m) n =
    rw suc-add
    (ap (λ (l : List ℕ). line_of (step_of file from).found ++ l) (sheets_join file (step_of file from).next m n)
    ∙ sym (append_assoc (line_of (step_of file from).found) (lines_from file (step_of file from).next m) (lines_from file (after_steps file (step_of file from).next m) n)))

-- ---- the lines of as many fixes as a file has are those of its track's records

lines_shown : (file : List ℕ) (from : Progress) (n : ℕ) → lines_from file from n ≡ records_shown (fixes_from (step_of file) from n)
unfolding lines_from records_shown fixes_from
lines_shown file from zero = refl
lines_shown file from (suc n) = ap (λ (l : List ℕ). line_of (step_of file from).found ++ l) (lines_shown file (step_of file from).next n)

pub track_whole : (file : List ℕ) (f : Flight) → verdict track_seal file None ≡ says f → lines_from file (start_by (fix_size f) f.layouts.b) (count_of family.B f.counts) ≡ records_shown (track_of file f.layouts.b)
track_whole file f e = lines_shown file (start_by (fix_size f) f.layouts.b) (count_of family.B f.counts) ∙ ap records_shown (found_all file f e)
