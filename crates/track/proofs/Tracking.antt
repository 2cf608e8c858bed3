-- What is planned and read step by step is the track of the file. Assumes nothing.
use Rattle.std.specs.Prelude.{None}
use Prim.Native.Nat.{ℕ, ◌≤◌}
use mathlib.Core.List.{List}
use mathlib.Core.Path.{◌≡◌, refl, sym, ap, subst, ◌∙◌}
use native.Mathlib.Omega.{arith}
use borrow.Author.Tests.{leb-true}
use lib.Dec.{leb}
use lib.ListN.{length}
use Rattle.rules.specs.Choice.{Each}
use Rattle.rules.specs.Families.{count_of}
use Rattle.rules.specs.Files.{verdict}
use Rattle.rules.specs.Refusals.{Said, says, refuses}
use Rattle.rules.specs.Split.{Lines, end, broken, line, lines_of}
use Rattle.rules.specs.Walk.{set_out}
use Rattle.rules.specs.declared.Family.TheVariants as family
use Rattle.rules.specs.declared.Flight.{Flight}
use Rattle.rules.specs.declared.Layout.{Layout}
use Rattle.rules.specs.declared.Layouts.{Layouts}
use Rattle.rules.proofs.Inverse.{refuses_says, need_inv, then_inv}
use Rattle.rules_laws.proofs.Splitting.{texts_of}
use Rattle.grammar.specs.Readings.{ReadsLine}
use Rattle.grammar.proofs.EachLine.{fix_alone}
use Rattle.track_step.specs.Steps.{step_of}
use Rattle.track_rules.specs.Track.{track_seal, track_of, flight_tracked}
use Rattle.track_rules.specs.declared.Record.{Record}
use Rattle.track_rules.specs.Stored.{fixes_from, stored}
use Rattle.track_course.specs.Courses.{start_by, fix_size, CourseTold}
use Rattle.track.specs.Tracks.{CoursePlanned, FileTracked}
use Rattle.track_course.specs.declared.Course.{Course}
use Rattle.track.proofs.Stepping.{Here, AllRead, steps_find, as_many}
use Rattle.track.proofs.Accepted.{file_short, texts_read, letters_counted, length_told_lem}

-- ---- an accepted file

-- each B line of lines that all read
pub all_read : (layouts : Layouts) (k : Lines) → Each (ReadsLine layouts) (texts_of k) → AllRead layouts.b k
all_read layouts end r = tt
all_read layouts (broken n) r = tt
all_read layouts (line t ls) r = ((λ e. let x = r.0.columned family.B e in (x.fix, fix_alone t layouts.b _ x.reads)), all_read layouts ls r.1)

module _ (file : List ℕ) (f : Flight) (accepted : verdict track_seal file None ≡ says f) where
  abbrev layout : Layout
  layout = f.layouts.b

  pub read : AllRead layout (lines_of file)
  read = all_read f.layouts (lines_of file) (texts_read track_seal file f accepted)

  pub counted_all : length (track_of file layout) ≡ count_of family.B f.counts
  counted_all = as_many layout (lines_of file) set_out read ∙ sym (letters_counted track_seal file f accepted family.B)

  pub found_all : fixes_from (step_of file) (start_by (fix_size f) layout) (count_of family.B f.counts) ≡ track_of file layout
  found_all = rw (← counted_all) (steps_find file (file_short track_seal file f accepted) layout (lines_of file) (start_by (fix_size f) layout) here read)
    where
      here : Here file (file_short track_seal file f accepted) layout (start_by (fix_size f) layout) (lines_of file)
      here = record { lines = refl; inside = omega arith; passed = omega arith; days = omega arith; size = length_told_lem track_seal file f accepted family.B; finer = refl }

-- ---- the whole track

-- a file whose plan is good is accepted, and its fixes have room
pub planned_accepted : (file : List ℕ) (room : ℕ) (f : Flight) → flight_tracked file room ≡ says f → (verdict track_seal file None ≡ says f) × (count_of family.B f.counts ≤ room)
unfolding flight_tracked
planned_accepted file room f e =
    let v = then_inv (verdict track_seal file None) f _ e in
    let n = need_inv (leb (count_of family.B v.0.counts) room) _ (says f) _ refuses_says v.2 in
    let i : v.0 ≡ f = cc in
    (v.1 ∙ ap says i, subst (λ (x : Flight). count_of family.B x.counts ≤ room) i (leb-true _ _ n.0))

module _ (file : List ℕ) (list : List Record) (p : Course) where
  by_said : (s : Said Flight) → flight_tracked file (length list) ≡ s → CourseTold s p → FileTracked file list p.answer (stored (step_of file) p.start p.count list)
  unfolding fixes_from
  by_said (refuses n l b) e w = record { told = rw e w.told; records = rw (e, w.count) }
  by_said (says f) e w =
      let a = (planned_accepted file (length list) f e).0 in
      record { told = rw e w.told; records = rw (e, w.count, w.start, counted_all file f a, found_all file f a) }

  pub tracked_is : CoursePlanned file (length list) p → FileTracked file list p.answer (stored (step_of file) p.start p.count list)
  tracked_is w = by_said (flight_tracked file (length list)) refl w
