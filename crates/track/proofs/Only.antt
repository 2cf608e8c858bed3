-- One answer at most meets each promise of this crate, and the list is afterwards one thing. Assumes nothing.
use Prim.Native.Nat.{ℕ}
use mathlib.Core.List.{List}
use Rattle.rules_only.proofs.Only.{Only, OnlyBoth, same, alike}
use Rattle.track_rules.specs.declared.Record.{Record}
use Rattle.rules_only.proofs.Told.{result_one}
use Rattle.track_course.proofs.Only.{course_only}
use Rattle.track.specs.Tracks.{CoursePlanned, FileTracked}

pub only_course_planned : (file : List ℕ) (room : ℕ) → Only (CoursePlanned file room)
only_course_planned file room = course_only

pub only_file_tracked : (file : List ℕ) (list : List Record) → OnlyBoth (FileTracked file list)
only_file_tracked file list r r' after after' w w' = (alike result_one r r' w.told w'.told, same after after' w.records w'.records)
