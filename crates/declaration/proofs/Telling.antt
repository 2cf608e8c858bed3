-- Each way out of the functions that say what is refused is a way through what is said. Assumes nothing.
use Rattle.std.specs.Prelude.{Err, None, Ok, Option, Result, Some}
use Prim.Native.Nat.{ℕ, ◌+◌, ◌*◌, ◌≤◌, ◌<◌}
use mathlib.Core.List.{List, []}
use mathlib.Core.Path.{◌≡◌, refl, sym, ap, subst, ◌∙◌}
use native.Mathlib.Omega.{arith}
use borrow.Author.Tests.{le-leb, lt-leb}
use lib.ListN.{length, drop}
use lib.Seq.{sets, sets-eq}
use Rattle.rules.specs.Choice.{part}
use Rattle.rules.specs.Files.{verdict, over, CheckedTold}
use Rattle.rules.specs.Refusals.{Said, says, refuses, refusal, outcome, and_then, result_told}
use Rattle.rules.specs.Split.{lines_of}
use Rattle.rules.specs.declared.Checked.{Checked}
use Rattle.rules.specs.declared.Flight.{Flight}
use Rattle.rules.specs.declared.Head.{Head}
use Rattle.rules.specs.declared.Reason.TheVariants as reason
use Rattle.rules.specs.declared.Refusal.{Refusal}
use Rattle.rules.proofs.Inverse.{refuses_says}
use Rattle.file_lines.specs.Ends.{unplaced}
use Rattle.declaration.specs.Declaration.{no_head, declaration_seal, Placed, first_c, undeclared, declared_at, declared_in, points_from, points_of, room_said, placed_said, StartTold, FileDeclared}
use Rattle.declaration.specs.Starts.{Lies, Found}
use Rattle.declaration.specs.declared.Declared.{Declared}
use Rattle.declaration.specs.declared.Start.{Start}
use Rattle.declaration.proofs.Pointing.{points_few}

pub over_is : (vs list : List ℕ) → length vs ≤ length list → sets list 0 vs ≡ over vs list
over_is vs list h = let m : 0 + length vs ≡ length vs = omega arith in rw m at (sets-eq vs list 0 (omega (arith, h)))

-- what was found
pub found_lies : (file : List ℕ) (r : Option Start) → Found file r → (s : Start) → r ≡ Some s → Lies file s
found_lies file r w s e = rw e at w

pub found_none : (file : List ℕ) (r : Option Start) → Found file r → r ≡ None → first_c 0 0 (lines_of file) ≡ None
found_none file r w e = rw e at w

module _ (list : List ℕ) where
  -- refused: nothing changes
  pub refused_told : (s : Said (Option Placed)) (w : Refusal) → s ≡ refusal w → StartTold s list (Err w) list
  unfolding result_told
  refused_told s w e = rw e (record { told = refl; numbers = refl })

  -- ---- no declaration

  pub store_none : (o : Option Placed) → o ≡ None → (h : Head) → h ≡ no_head → StartTold (room_said o (length list)) list (Ok (record { head = h; points = 0; line = 0; text = 0; length = 0 })) list
  unfolding room_said result_told
  store_none o e h g = rw (e, g, le-leb (0 * 6) (length list) (omega arith)) (record { told = refl; numbers = refl })

  -- ---- the list has room, or is short

  module _ (file : List ℕ) (s : Start) (l : Lies file s) (d : Declared) (same : d ≡ declared_at s.lines s.at (part s.at s.end file)) where
    abbrev place : Placed
    place = record { lines = s.lines; at = s.at; text = part s.at s.end file; later = lines_of (drop (s.end + 2) file) }

    abbrev many : ℕ
    many = (declared_at s.lines s.at (part s.at s.end file)).points

    many_same : d.points ≡ many
    many_same = ap (λ (x : Declared). x.points) same

    pub store_short : (w : Refusal) → length list < d.points * 6 → w ≡ unplaced reason.NoRoom → StartTold (room_said (first_c 0 0 (lines_of file)) (length list)) list (Err w) list
    unfolding room_said
    store_short w h e =
        let g : length list < many * 6 = subst (λ (n : ℕ). length list < n * 6) many_same h in
        refused_told _ w (rw (l.is, lt-leb (many * 6) (length list) g, e))

    points_are : points_of place ≡ points_from d.points (s.end + 2) (lines_of (drop (s.end + 2) file))
    points_are = rw (many_same, l.long)

    pub store_fits : d.points * 6 ≤ length list → (after : List ℕ) → after ≡ sets list 0 (points_from d.points (s.end + 2) (lines_of (drop (s.end + 2) file)))
        → StartTold (room_said (first_c 0 0 (lines_of file)) (length list)) list (Ok d) after
    unfolding room_said result_told
    store_fits h after e =
        let n : length (points_of place) ≤ length list = rw points_are (omega (arith, h, points_few d.points (s.end + 2) (lines_of (drop (s.end + 2) file)))) in
        let a : after ≡ over (points_of place) list = e ∙ ap (sets list 0) (sym points_are) ∙ over_is (points_of place) list n in
        let g : many * 6 ≤ length list = subst (λ (n : ℕ). n * 6 ≤ length list) many_same h in
        rw (l.is, le-leb (many * 6) (length list) g) (record { told = ap says same; numbers = a })

  -- ---- the check

  module _ (file : List ℕ) (c : Checked) (t : CheckedTold (verdict declaration_seal file None) c) where
    pub check_refused : (w : Refusal) → c.outcome ≡ Err w → FileDeclared file list (Err w) list
    unfolding placed_said result_told
    check_refused w e = refused_told _ w (by (verdict declaration_seal file None) (rw e at t.answer))
      where
        relay : Said (Unit {0}) → Said (Option Placed)
        relay (says u) = refuses 0 0 0
        relay (refuses n l b) = refuses n l b

        by : (s : Said Flight) → refusal w ≡ outcome s → (and_then s λ _. room_said (first_c 0 0 (lines_of file)) (length list)) ≡ refusal w
        by (says f) k = absurd (refuses_says k)
        by (refuses n l b) k = ap relay (sym k)

    pub check_told : c.outcome ≡ (Ok tt) → (r : Result Declared Refusal) (after : List ℕ) → StartTold (room_said (first_c 0 0 (lines_of file)) (length list)) list r after → FileDeclared file list r after
    unfolding placed_said result_told
    check_told e r after q = by (verdict declaration_seal file None) (rw e at t.answer)
      where
        by : (s : Said Flight) → says tt ≡ outcome s → StartTold (and_then s λ _. room_said (first_c 0 0 (lines_of file)) (length list)) list r after
        by (says f) k = q
        by (refuses n l b) k = absurd (refuses_says (sym k))
