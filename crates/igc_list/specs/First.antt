-- The first line of the listing of document 01, and the promise of the function that puts it.
use Rattle.std.specs.Prelude.{ℕ, cond, List, ◌≡◌, leb, length, Some}
use Rattle.rules.specs.Choice.{need}
use Rattle.rules.specs.Refusals.{Said, says, refuses, no, value_or}
use Rattle.rules.specs.Order.{no_flight}
use Rattle.rules.specs.Files.{verdict, table_after}
use Rattle.rules.specs.Listing.{refused_text, ok_text}
use Rattle.rules.specs.declared.Reason.TheVariants.{InputOver}
use Rattle.rules.specs.declared.Flight.{Flight}
use Rattle.rules.specs.declared.Seal.{Seal}
use Rattle.text_pieces.specs.Buffer.{Shown}
use Rattle.igc_list.specs.declared.first.Begun.{Begun}

-- ---- the first line

-- "21 INPUT_OVER: program's input over 65,536 bytes; 0, 0", here over `most`; else what the check says with a table of `room` entries
unfoldable pub opened : Seal → ℕ → List ℕ → ℕ → Said Flight
opened seal most file room = need (leb (length file) most) (no InputOver 0) λ _. verdict seal file (Some room)

-- "OK: lines, B lines, K lines, B length, K length."; it "gets the N count and N length as two more fields at its end"; "A refusal prints only REFUSED, number, line, byte."
unfoldable pub first_line : Said Flight → List ℕ
first_line (says f) = ok_text f
first_line (refuses n l b) = refused_text n l b

-- the first line stands in the buffer, the table is as the check leaves it, and the lines and the I layout are the answer's, none where refused
pub record Begins (seal : Seal) (most : ℕ) (file table out : List ℕ) (r : Begun) (entries after : List ℕ) : Type 0 where
  pub shown : Shown (first_line (opened seal most file (length table))) out r.count after
  pub lines : r.lines ≡ (value_or no_flight (opened seal most file (length table))).lines
  pub layout : r.layout ≡ (value_or no_flight (opened seal most file (length table))).layouts.b
  pub entered : entries ≡ cond (leb (length file) most) (table_after seal file table) table
