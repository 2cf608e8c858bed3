-- For each promise of this crate: two outcomes that meet it are the same, the number returned, what is lent and the answer. Assumes nothing.
use Rattle.rules.specs.declared.Refusal.{Refusal}
use Rattle.std.specs.Prelude.{Result}
use Prim.Native.Nat.{ℕ}
use mathlib.Core.Bool.{Bool, true, false}
use mathlib.Core.List.{List}
use mathlib.Core.Path.{◌≡◌, refl, sym, ◌∙◌, subst}
use lib.IntN.{ℤ}
use lib.ListN.{length}
use Rattle.rules.specs.Split.{lines_of}
use Rattle.notes_sorted.proofs.Pairs.{together_once}
use Rattle.notes_rules.specs.Notes.{notes_in}
use Rattle.notes_rules.specs.Merging.{Merged, merged_file, merge_said, out_merged}
use Rattle.notes_rules.proofs.Texts.{texts}
use Rattle.track_rules.specs.declared.Record.{Record}
use Rattle.shelf_pack.proofs.Only.{only_packed_or_same}
use Rattle.c_answers.specs.Answers.{size, has_room, AnsweredBeside}
use Rattle.c_answers.proofs.Only.{only_answered, only_beside}
use Rattle.c_flights.specs.Declarations.{DeclarationAnswered}
use Rattle.c_flights.specs.Grids.{ColumnsAnswered}
use Rattle.c_flights.specs.Lettered.{KindsAnswered}
use Rattle.c_flights.specs.Merging.{merge_numbers, MergeAnswered}
use Rattle.c_flights.specs.Shelves.{AddAnswered, AskAnswered, RemoveAnswered, PackAnswered}
use Rattle.c_flights.specs.Summaries.{SummaryAnswered}
use Rattle.c_flights.specs.Tracks.{TrackTold, TrackAnswered}

-- the notes that stand together are the same, so what is told and given by them is
pub only_merge_answered : (first second out answer : List ℕ) (r r' : ℕ) (now now' after after' : List ℕ) → MergeAnswered first second out answer r now after → MergeAnswered first second out answer r' now' after'
    → (r ≡ r') × (now ≡ now') × (after ≡ after')
only_merge_answered first second out answer r r' now now' after after' w w' =
    let e = together_once texts (notes_in (lines_of first)) (notes_in (lines_of second)) w.notes w'.notes w.together w'.together in
    let said : List (List ℕ) → Merged = λ notes. merge_said first second (merged_file first notes) (length out) in
    let a =
    subst
    (λ (notes : List (List ℕ)). AnsweredBeside (has_room size answer) answer (merge_numbers (said notes)) out (out_merged (said notes) (merged_file first notes) out) r after now)
    e w.answered
    in
    only_beside answer r r' after after' now now' a w'.answered

pub only_track_told : (answer : List ℕ) (t : Result ℕ Refusal) (r r' : ℕ) (after after' : List ℕ) → TrackTold answer t r after → TrackTold answer t r' after' → (r ≡ r') × (after ≡ after')
only_track_told answer t r r' after after' = only_answered answer r r' after after'

pub only_track_answered : (file : List ℕ) (list : List Record) (answer : List ℕ) (r r' : ℕ) (now now' : List Record) (after after' : List ℕ) → TrackAnswered file list answer r now after
    → TrackAnswered file list answer r' now' after' → (r ≡ r') × (now ≡ now') × (after ≡ after')
only_track_answered file list answer r r' now now' after after' = only_beside answer r r' after after' now now'

pub only_declaration_answered : (file list answer : List ℕ) (r r' : ℕ) (now now' after after' : List ℕ) → DeclarationAnswered file list answer r now after
    → DeclarationAnswered file list answer r' now' after' → (r ≡ r') × (now ≡ now') × (after ≡ after')
only_declaration_answered file list answer r r' now now' after after' = only_beside answer r r' after after' now now'

pub only_columns_answered : (file : List ℕ) (letter : ℕ) (codes : List ℕ) (list : List ℤ) (answer : List ℕ) (r r' : ℕ) (now now' : List ℤ) (after after' : List ℕ)
    → ColumnsAnswered file letter codes list answer r now after → ColumnsAnswered file letter codes list answer r' now' after' → (r ≡ r') × (now ≡ now') × (after ≡ after')
only_columns_answered file letter codes list answer r r' now now' after after' = only_beside answer r r' after after' now now'

pub only_kinds_answered : (file list answer : List ℕ) (r r' : ℕ) (now now' after after' : List ℕ) → KindsAnswered file list answer r now after → KindsAnswered file list answer r' now' after'
    → (r ≡ r') × (now ≡ now') × (after ≡ after')
only_kinds_answered file list answer r r' now now' after after' = only_beside answer r r' after after' now now'

pub only_summary_answered : (file : List ℕ) (old : ℕ) (list : List ℤ) (answer : List ℕ) (r r' : ℕ) (now now' : List ℤ) (after after' : List ℕ) → SummaryAnswered file old list answer r now after
    → SummaryAnswered file old list answer r' now' after' → (r ≡ r') × (now ≡ now') × (after ≡ after')
only_summary_answered file old list answer r r' now now' after after' = only_beside answer r r' after after' now now'

module _ (b : List ℕ) (number : ℕ) (answer : List ℕ) (r r' : ℕ) (now now' after after' : List ℕ) where
  pub only_add_answered : (file : List ℕ) → AddAnswered b number file answer r now after → AddAnswered b number file answer r' now' after' → (r ≡ r') × (now ≡ now') × (after ≡ after')
  only_add_answered file = only_beside answer r r' after after' now now'

  pub only_remove_answered : RemoveAnswered b number answer r now after → RemoveAnswered b number answer r' now' after' → (r ≡ r') × (now ≡ now') × (after ≡ after')
  only_remove_answered = only_beside answer r r' after after' now now'

pub only_ask_answered : (b : List ℕ) (number : ℕ) (answer : List ℕ) (r r' : ℕ) (after after' : List ℕ) → AskAnswered b number answer r after → AskAnswered b number answer r' after' → (r ≡ r') × (after ≡ after')
only_ask_answered b number answer r r' after after' = only_answered answer r r' after after'

module _ (b answer : List ℕ) (r r' : ℕ) (now now' after after' : List ℕ) where
  pub only_pack_answered : PackAnswered b answer r now after → PackAnswered b answer r' now' after' → (r ≡ r') × (now ≡ now') × (after ≡ after')
  only_pack_answered w w' =
      let o = only_answered answer r r' after after' w.told w'.told in
      (o.0, same (has_room size answer) refl, o.1)
    where
      same : (t : Bool) → has_room size answer ≡ t → now ≡ now'
      same true e = only_packed_or_same b now now' (w.packed e) (w'.packed e)
      same false e = w.same e ∙ sym (w'.same e)
