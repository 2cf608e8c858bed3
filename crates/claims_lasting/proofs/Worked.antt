-- The columns of document 01's file of five lines, of the same with notes, with a column put in, and with an old column's text changed; and of a file with K and N lines before
-- and after columns were put in: worked out by hand. Computed. Assumes nothing.
use Prim.Native.Nat.{ℕ}
use Prim.Native.Char.{code}
use Prim.Native.String.{String}
use mathlib.Core.List.{List, [], ◌∷◌}
use mathlib.Core.Path.{◌≡◌, refl}
use lib.IntN.{ℤ, pos}
use Rattle.rules.specs.Choice.{bytes}
use Rattle.rules.specs.Refusals.{says, refuses}
use Rattle.rules.proofs.Computed.{everything, file_of}
use Rattle.rules.proofs.Damaged.{five_lines}
use Rattle.grammar_wider.proofs.Instances.{enl_between, every_kind, all_widened}
use Rattle.grammar_wider.proofs.NotWider.{text_changed}
use Rattle.claims_notes.proofs.Worked.{noted_five}
use Rattle.columns_asked.specs.Asks.{names_from, among, again, are_codes, are_carried, places_of, places_said, asked_said}
use Rattle.columns.specs.Columns.{row_in, rows_in, grid_room, grid_in, grid_of, grid_said, columns_said, columns_after}

-- a list of three numbers afterwards, with the codes asked of the lines with a letter
abbrev pub list_of : List ℕ → ℕ → String → List ℤ
unfolding bytes
list_of file letter codes = columns_after file letter (bytes codes) (pos 9 ∷ pos 9 ∷ pos 9 ∷ [])

-- to unfold this is to unfold all that is computed of columns
unfoldable grids : Unit {0}
unfolding everything file_of names_from among again are_codes are_carried places_of places_said asked_said row_in rows_in grid_room grid_in grid_of grid_said
grids = tt

-- SIU is 08 and FXA 012; the third number stays
pub five_columns : list_of five_lines (code "B") "SIUFXA" ≡ pos 8 ∷ pos 12 ∷ pos 9 ∷ []
unfolding grids
five_columns = refl

pub five_noted : list_of noted_five (code "B") "SIUFXA" ≡ pos 8 ∷ pos 12 ∷ pos 9 ∷ []
unfolding grids
five_noted = refl

-- ENL, 345, stands between them
pub five_widened : list_of enl_between (code "B") "SIUFXA" ≡ pos 8 ∷ pos 12 ∷ pos 9 ∷ []
unfolding grids
five_widened = refl

-- ENL is no old code: 19 before, and a number afterwards
pub added_column : (columns_said five_lines (code "B") (bytes "ENL") 3 ≡ refuses 19 0 0) × (columns_said enl_between (code "B") (bytes "ENL") 3 ≡ says 1)
    × (list_of enl_between (code "B") "ENL" ≡ pos 345 ∷ pos 9 ∷ pos 9 ∷ [])
unfolding grids
added_column = (refl, refl, refl)

-- FXA is 013, and was 012
pub five_changed : list_of text_changed (code "B") "SIUFXA" ≡ pos 8 ∷ pos 13 ∷ pos 9 ∷ []
unfolding grids
five_changed = refl

-- TDS of the K line is 7, at byte 8 and then at byte 11; HRT of the N line is 112, at bytes 8 to 10 and then at 11 to 13
pub extras_before : (list_of every_kind (code "K") "TDS" ≡ pos 7 ∷ pos 9 ∷ pos 9 ∷ []) × (list_of every_kind (code "N") "HRT" ≡ pos 112 ∷ pos 9 ∷ pos 9 ∷ [])
unfolding grids
extras_before = (refl, refl)

pub extras_widened : (list_of all_widened (code "K") "TDS" ≡ pos 7 ∷ pos 9 ∷ pos 9 ∷ []) × (list_of all_widened (code "N") "HRT" ≡ pos 112 ∷ pos 9 ∷ pos 9 ∷ [])
unfolding grids
extras_widened = (refl, refl)
