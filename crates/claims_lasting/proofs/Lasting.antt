-- Notes change nothing of the columns of a whole file, and added columns nothing of the old ones, what is claimed. Its words stand in specs/Lasting, in quiet (Notes) and in
-- wider (Wider). Assumes nothing.
--
-- The claims on answers are about every answer that the contract of `columns::columns` allows (promise FileColumned), and by `only_file_columned` that is one. What columns are is on
-- the page of barogram (proofs/Columns).
use Rattle.rules_only.proofs.Told.{result_one}
use Rattle.rules.specs.declared.Refusal.{Refusal}
use Rattle.std.specs.Prelude.{None, Option, Result, Some}
use Prim.Native.Nat.{ℕ, ◌≤◌}
use Prim.Native.Char.{code}
use mathlib.Core.Bool.{true}
use mathlib.Core.List.{List, [], ◌∷◌}
use mathlib.Core.Path.{◌≡◌, refl, sym, ◌∙◌}
use lib.Dec.{lit≤}
use lib.IntN.{ℤ, pos}
use lib.ListN.{length}
use Rattle.rules.specs.Choice.{bytes}
use Rattle.rules.specs.Families.{layout_of}
use Rattle.rules.specs.Files.{verdict}
use Rattle.rules.specs.Refusals.{says, refuses, result_told}
use Rattle.rules.specs.Split.{lines_of}
use Rattle.rules.specs.declared.Family.{Family}
use Rattle.rules.specs.declared.Flight.{Flight}
use Rattle.rules.specs.declared.Seal.{Seal}
use Rattle.rules.specs.declared.Seal.TheVariants as seal
use Rattle.rules.proofs.Computed.{everything, file_of}
use Rattle.rules.proofs.Damaged.{five_lines, five_layout, verdict_of_five}
use Rattle.grammar_wider.specs.Wider.{WiderFile}
use Rattle.grammar_wider.specs.Before.{put_in, LayoutsAsBefore}
use Rattle.grammar_wider.proofs.Demand.{widened_layouts}
use Rattle.grammar_wider.proofs.Instances.{enl_between, between, every_kind, all_widened}
use Rattle.grammar_wider.proofs.NotWider.{five, text_changed, text_changed_lem}
use Rattle.claims_notes.specs.Notes.{ButForNotes}
use Rattle.claims_notes.proofs.Notes.{five_and_noted}
use Rattle.claims_notes.proofs.Tracks.{usually_accepted}
use Rattle.claims_notes.proofs.Worked.{noted_five, saying}
use Rattle.columns_asked.specs.Asks.{are_carried}
use Rattle.columns.specs.Columns.{columns_seal, rows_in, columns_said, FileColumned}
use Rattle.claims_columns.proofs.Answers.{stands}
use Rattle.claims_lasting.specs.Lasting.{SameColumns, OldCodes}
use Rattle.claims_lasting.proofs.Noted.{noted}
use Rattle.claims_lasting.proofs.Rows.{columns_by}
use Rattle.claims_lasting.proofs.Widened.{rows_before, widely_alike}
use Rattle.claims_lasting.proofs.Worked as worked
use Rattle.claims_lasting.proofs.Worked.{list_of}

-- what the library answers on both
answered : (file other : List ℕ) (letter : ℕ) (codes : List ℕ) (list : List ℤ) → SameColumns file other letter codes list → (r r' : Result ℕ Refusal) (after after' : List ℤ)
    → FileColumned file letter codes list r after → FileColumned other letter codes list r' after' → (r' ≡ r) × (after' ≡ after)
answered file other letter codes list s r r' after after' a b = (
  result_one r' r (b.told ∙ s.said ∙ sym a.told),
  b.numbers ∙ s.after ∙ sym a.numbers,
)

-- ---- notes

module _ (seal : Seal) (file : List ℕ) (f : Flight) (other : List ℕ) (g : Flight) (w : ButForNotes seal file f other g) (letter : ℕ) (codes : List ℕ) (list : List ℤ) where
  -- two accepted files that differ in their L lines alone: for any letter, any codes and any list the same is said, a count of lines or a refusal, and the list is afterwards
  -- the same
  pub notes_leave_columns : SameColumns file other letter codes list
  notes_leave_columns = noted seal file f other g w letter codes list

  -- by every answer that the contract of `columns::columns` allows
  pub noted_answers : (r r' : Result ℕ Refusal) (after after' : List ℤ) → FileColumned file letter codes list r after → FileColumned other letter codes list r' after' → (r' ≡ r) × (after' ≡ after)
  noted_answers = answered file other letter codes list notes_leave_columns

-- ---- added columns

module _ (needs : Seal) (file file' : List ℕ) (room : Option ℕ) (f : Flight) (accepted : verdict needs file room ≡ says f) (wider : WiderFile file file') (limit : length file' ≤ 16777216) where
  usual : verdict columns_seal file None ≡ says f
  usual = usually_accepted needs file room f accepted

  -- no table is lent, so the old file and the limit are all that is asked for
  wide : (f' : Flight) × (verdict columns_seal file' None ≡ says f') × LayoutsAsBefore file file' f f' (put_in wider)
  wide = widened_layouts columns_seal file file' None None f usual wider limit refl

  -- the new file is accepted, and each row of old codes, of B, K and N lines, is as it was: as many rows, number for number and mark for mark
  pub widened_rows : (f' : Flight) × (verdict columns_seal file' None ≡ says f')
      × ((g : Family) (names : List (List ℕ)) → are_carried (layout_of g f.layouts) names ≡ true
      → rows_in g (layout_of g f'.layouts) names (lines_of file') ≡ rows_in g (layout_of g f.layouts) names (lines_of file))
  widened_rows = (wide.0, wide.1, rows_before file file' f wide.0 usual wide.1 (put_in wider) wide.2)

  module _ (letter : ℕ) (codes : List ℕ) (list : List ℤ) where
    -- so for old codes the same is said, a count of lines or a refusal, and the list is afterwards the same
    pub widened_columns : OldCodes f letter codes → SameColumns file file' letter codes list
    widened_columns old = columns_by file file' f wide.0 usual wide.1 letter codes list (widely_alike file file' f wide.0 usual wide.1 (put_in wider) wide.2 letter codes (length list) old)

    module _ (r r' : Result ℕ Refusal) (after after' : List ℤ) (a : FileColumned file letter codes list r after) (b : FileColumned file' letter codes list r' after') where
      -- by every answer that the contract of `columns::columns` allows
      pub widened_answers : OldCodes f letter codes → (r' ≡ r) × (after' ≡ after)
      widened_answers old = answered file file' letter codes list (widened_columns old) r r' after after' a b

      -- what was given of the old file is given of the new one
      pub given_stays : (n : ℕ) → result_told r ≡ says n → (r' ≡ r) × (after' ≡ after)
      given_stays n e =
          let s = stands file letter codes list r after a n e in
          widened_answers λ g o.
          let x : s.family ≡ g = let v : Some s.family ≡ Some g = sym s.of ∙ o in cc in
          let y : s.flight ≡ f = let v : says s.flight ≡ says f = sym s.accepted ∙ usual in cc in
          rw (← x, ← y) s.carried

-- ---- worked

-- so of document 01's file and of the same with notes before and behind its G line
pub five_and_notes : (letter : ℕ) (codes : List ℕ) (list : List ℤ) → SameColumns five_lines noted_five letter codes list
five_and_notes = notes_leave_columns seal.Strict five_lines (saying 5 true) noted_five (saying 9 true) (five_and_noted seal.Strict)

-- and of the same with ENL put between its columns
pub five_and_enl : (letter : ℕ) (codes : List ℕ) (list : List ℤ) → OldCodes (five five_layout) letter codes → SameColumns five_lines enl_between letter codes list
unfolding everything file_of
five_and_enl = widened_columns seal.Strict five_lines enl_between (Some 16) (five five_layout) verdict_of_five between (lit≤ tt)

-- computed, SIU and FXA of these three; TDS of a K line and HRT of an N line before and after a column was put before each
pub same_columns : (list_of five_lines (code "B") "SIUFXA" ≡ pos 8 ∷ pos 12 ∷ pos 9 ∷ []) × (list_of noted_five (code "B") "SIUFXA" ≡ pos 8 ∷ pos 12 ∷ pos 9 ∷ [])
    × (list_of enl_between (code "B") "SIUFXA" ≡ pos 8 ∷ pos 12 ∷ pos 9 ∷ []) × (list_of every_kind (code "K") "TDS" ≡ pos 7 ∷ pos 9 ∷ pos 9 ∷ [])
    × (list_of all_widened (code "K") "TDS" ≡ pos 7 ∷ pos 9 ∷ pos 9 ∷ []) × (list_of every_kind (code "N") "HRT" ≡ pos 112 ∷ pos 9 ∷ pos 9 ∷ [])
    × (list_of all_widened (code "N") "HRT" ≡ pos 112 ∷ pos 9 ∷ pos 9 ∷ [])
same_columns = (worked.five_columns, worked.five_noted, worked.five_widened, (worked.extras_before).0, (worked.extras_widened).0, (worked.extras_before).1, (worked.extras_widened).1)

-- no file with added columns is one whose FXA is 013 and was 012, and its columns are others; and ENL, which is no old code, is 19 of the old file and 345 of the new one
pub other_columns : (WiderFile five_lines text_changed → ⊥) × (list_of text_changed (code "B") "SIUFXA" ≡ pos 8 ∷ pos 13 ∷ pos 9 ∷ [])
    × (columns_said five_lines (code "B") (bytes "ENL") 3 ≡ refuses 19 0 0) × (list_of enl_between (code "B") "ENL" ≡ pos 345 ∷ pos 9 ∷ pos 9 ∷ [])
other_columns = (text_changed_lem, worked.five_changed, (worked.added_column).0, (worked.added_column).2)
