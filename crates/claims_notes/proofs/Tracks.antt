-- The track of two files that are the same but for their notes: the answer is the same, and so is each record of the list afterwards, but for its line number. Assumes nothing.
use Rattle.std.specs.Prelude.{None, Option}
use Prim.Native.Nat.{ℕ}
use mathlib.Core.Bool.{Bool, true, false, cond}
use mathlib.Core.List.{List, ◌++◌, map, map-append}
use mathlib.Core.Path.{◌≡◌, refl, sym, ◌∙◌, ap, ap₂}
use lib.Dec.{leb}
use lib.ListN.{length, drop, length-map}
use Rattle.rules.specs.Choice.{need}
use Rattle.rules.specs.Families.{count_of}
use Rattle.rules.specs.Files.{verdict}
use Rattle.rules.specs.Refusals.{says, no, and_then}
use Rattle.rules.specs.declared.Family.TheVariants as family
use Rattle.rules.specs.declared.Flight.{Flight}
use Rattle.rules.specs.declared.Reason.TheVariants.{NoRoom}
use Rattle.rules.specs.declared.Seal.{Seal}
use Rattle.rules.specs.declared.Seal.TheVariants as seal
use Rattle.grammar.proofs.Demands.{accepted_as, strict_is_usual_and_signed}
use Rattle.track_rules.specs.Track.{track_seal, track_of, flight_tracked, track_said, records_in, laid_over, list_after}
use Rattle.track_rules.specs.declared.Record.{Record}
use Rattle.claims_notes.specs.Notes.{unnumbered, days_and_fixes}

-- what is accepted with a table is accepted with none, and what passes the strict check passes the usual one, and they say the same
pub usually_accepted : (needs : Seal) (file : List ℕ) (room : Option ℕ) (f : Flight) → verdict needs file room ≡ says f → verdict track_seal file None ≡ says f
usually_accepted needs file room f e = by needs (let a = (accepted_as needs file room f).0 e in (accepted_as needs file None f).1 (a.0, tt, a.2))
  where
    by : (s : Seal) → verdict s file None ≡ says f → verdict track_seal file None ≡ says f
    by seal.Usual e = e
    by seal.Strict e = ((strict_is_usual_and_signed file None f).0 e).0

-- ---- one file

module _ (file : List ℕ) (f : Flight) (accepted : verdict track_seal file None ≡ says f) where
  abbrev count : ℕ
  count = count_of family.B f.counts

  flight_by : (room : ℕ) → flight_tracked file room ≡ need (leb count room) (no NoRoom 0) λ _. says f
  unfolding flight_tracked
  flight_by room = rw accepted

  -- the answer by the count alone
  answer_by : (room : ℕ) → track_said file room ≡ need (leb count room) (no NoRoom 0) λ _. says count
  answer_by room = rw (flight_by room) (by (leb count room))
    where
      by : (t : Bool) → (and_then (need t (no NoRoom 0) λ _. says f) λ f. says (count_of family.B f.counts)) ≡ need t (no NoRoom 0) λ _. says count
      by true = refl
      by false = refl

  -- a list, told without line numbers
  abbrev bare : List Record → List Record
  bare = map unnumbered

  laid_bare : (records list : List Record) → bare (laid_over records list) ≡ bare records ++ bare (drop (length (bare records)) list)
  laid_bare records list =
      map-append unnumbered records (drop (length records) list) ∙ ap (λ (n : ℕ). bare records ++ bare (drop n list)) (sym (length-map records unnumbered))

  -- the list afterwards by the count, and by the fixes with their days
  list_by : (list : List Record) → bare (list_after file list) ≡ cond (leb count (length list)) (days_and_fixes file f ++ bare (drop (length (days_and_fixes file f)) list)) (bare list)
  list_by list = rw (flight_by (length list)) (by (leb count (length list)))
    where
      by : (t : Bool) → bare (laid_over (records_in file (need t (no NoRoom 0) λ _. says f)) list) ≡ cond t (days_and_fixes file f ++ bare (drop (length (days_and_fixes file f)) list)) (bare list)
      by true = laid_bare (track_of file f.layouts.b) list
      by false = refl

-- ---- two files

module _ (file : List ℕ) (f : Flight) (other : List ℕ) (g : Flight) (p : verdict track_seal file None ≡ says f) (q : verdict track_seal other None ≡ says g)
    (counts : count_of family.B g.counts ≡ count_of family.B f.counts) where
  pub answers_alike : (room : ℕ) → track_said other room ≡ track_said file room
  answers_alike room = answer_by other g q room ∙ ap (λ (n : ℕ). need (leb n room) (no NoRoom 0) λ _. says n) counts ∙ sym (answer_by file f p room)

  pub lists_alike : days_and_fixes other g ≡ days_and_fixes file f → (list : List Record) → map unnumbered (list_after other list) ≡ map unnumbered (list_after file list)
  lists_alike fixes list =
      list_by other g q list
      ∙ ap₂ (λ (n : ℕ) (rs : List Record). cond (leb n (length list)) (rs ++ map unnumbered (drop (length rs) list)) (map unnumbered list)) counts fixes
      ∙ sym (list_by file f p list)
