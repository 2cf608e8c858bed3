-- The two ways out of a merge, a track and a packed shelf: an answer of another length, and what was told. Assumes nothing.
use Rattle.rules.specs.declared.Refusal.{Refusal}
use Rattle.std.specs.Prelude.{Result, ⊤}
use Prim.Native.Nat.{ℕ}
use mathlib.Core.Bool.{true, false}
use mathlib.Core.List.{List}
use mathlib.Core.Path.{◌≡◌, refl, sym, ◌∙◌, ap}
use borrow.Author.Tests.{eq-eqb, ne_eqb}
use lib.ListN.{length}
use Rattle.rules.specs.Refusals.{result_told}
use Rattle.rules.specs.Split.{lines_of}
use Rattle.rules.proofs.Inverse.{false_true}
use Rattle.notes_sorted.proofs.Pairs.{weave_is}
use Rattle.notes_rules.specs.Notes.{notes_in}
use Rattle.notes_rules.proofs.Texts.{texts}
use Rattle.notes_merge.specs.Merge.{merge_told, FilesMerged}
use Rattle.notes_merge.specs.declared.Brought.{Brought}
use Rattle.notes_merge.proofs.Merging.{woven_notes}
use Rattle.track_rules.specs.declared.Record.{Record}
use Rattle.track.specs.Tracks.{FileTracked}
use Rattle.shelf_pack.specs.Pack.{ShelfPacked}
use Rattle.c_answers.specs.Answers.{size, in_numbers, has_room, AnswerGiven}
use Rattle.c_answers.specs.declared.Numbers.{Numbers}
use Rattle.c_answers.proofs.Laws.{no_room, same_numbers, beside_no_room, beside_room}
use Rattle.c_flights.specs.Merging.{merge_numbers, MergeAnswered}
use Rattle.c_flights.specs.Shelves.{no_numbers, PackAnswered}
use Rattle.c_flights.specs.Tracks.{count_numbers, TrackTold, TrackAnswered}

-- ---- two files merged: whichever notes they are that stand together

module _ (first second out answer : List ℕ) where
  pub merge_no_room : (length answer ≡ size → ⊥) → MergeAnswered first second out answer 17 out answer
  merge_no_room h = record {
    notes = woven_notes first second;
    together = weave_is texts (notes_in (lines_of first)) (notes_in (lines_of second));
    answered = beside_no_room _ _ _ _ h;
  }

  pub merge_room : (b : Brought) (n : Numbers) (r : ℕ) (out_now answer_now : List ℕ) → length answer ≡ size → FilesMerged first second out b out_now → n ≡ merge_numbers (merge_told b) → AnswerGiven answer n r answer_now
      → MergeAnswered first second out answer r out_now answer_now
  merge_room b n r out_now answer_now h w e a = record {
    notes = w.notes;
    together = w.together;
    answered = beside_room answer out _ n _ r answer_now out_now h (e ∙ ap merge_numbers w.told) a w.bytes;
  }

-- ---- a file's track, whose list the exported function alone touches

module _ (file : List ℕ) (list : List Record) (answer : List ℕ) where
  pub track_no_room : (length answer ≡ size → ⊥) → TrackAnswered file list answer 17 list answer
  track_no_room h = beside_no_room _ _ _ _ h

  pub track_room : (t : Result ℕ Refusal) (r : ℕ) (list_now : List Record) (answer_now : List ℕ) → length answer ≡ size → FileTracked file list t list_now → TrackTold answer t r answer_now
      → TrackAnswered file list answer r list_now answer_now
  track_room t r list_now answer_now h w a = beside_room answer list _ _ _ r answer_now list_now h (ap (in_numbers count_numbers) w.told) a w.records

-- ---- a shelf packed, whose bytes afterwards a relation says

module _ (b answer : List ℕ) where
  pub pack_no_room : (length answer ≡ size → ⊥) → PackAnswered b answer 17 b answer
  pack_no_room h = record { told = no_room _ _ h; packed = λ t. absurd (false_true (sym (ne_eqb (length answer) size h) ∙ t)); same = λ _. refl }

  pub pack_room : (o : Result ⊤ Refusal) (n : Numbers) (r : ℕ) (b_now answer_now : List ℕ) → length answer ≡ size → ShelfPacked b o b_now → n ≡ in_numbers no_numbers (result_told o)
      → AnswerGiven answer n r answer_now → PackAnswered b answer r b_now answer_now
  pack_room o n r b_now answer_now h w e g = record {
    told = same_numbers (has_room size answer) answer n _ r answer_now (e ∙ ap (in_numbers no_numbers) w.told) g;
    packed = λ _. w.bytes;
    same = λ f. absurd (false_true (sym f ∙ eq-eqb (length answer) size h));
  }
