-- The columns of a whole file, what is claimed. Each claim is a line from the room that proves it; its words stand in specs/Barogram. Assumes nothing.
--
-- The claims are about every answer that the contract of `columns::columns` allows (promise FileColumned), and by `only_file_columned` that is one. It is told by `columns_said`: the file's own refusal,
-- then 17, 19 and 18, or how many lines of the family there are; the list afterwards is `columns_after`. The file's refusals are the grammar's (demands: `refused_first`).
use Rattle.rules.specs.declared.Refusal.{Refusal}
use Rattle.std.specs.Prelude.{Result, Some}
use Prim.Native.Nat.{ℕ, ◌+◌, ◌*◌, ◌/◌, ◌≤◌, ◌<◌}
use mathlib.Core.Bool.{true}
use mathlib.Core.List.{List, []}
use mathlib.Core.Logic.{◌↔◌}
use mathlib.Core.Path.{◌≡◌, sym, ◌∙◌}
use lib.IntN.{ℤ, pos}
use lib.ListN.{length, get_or, drop}
use Rattle.rules.specs.Choice.{Each}
use Rattle.rules.specs.Families.{line_letter, layout_letter, layout_of, family_of}
use Rattle.rules.specs.Looks.{look_number}
use Rattle.rules.specs.Refusals.{says, refuses, result_told}
use Rattle.rules.specs.declared.Family.{Family}
use Rattle.rules.specs.declared.Layout.{Layout}
use Rattle.rules.specs.declared.Signed.{Signed}
use Rattle.grammar.specs.Grammar.{Meets, lines_in, beginning}
use Rattle.columns_asked.specs.Asks.{names_of, are_codes}
use Rattle.columns_row.specs.Cells.{no_number}
use Rattle.columns.specs.Columns.{columns_seal, FileColumned}
use Rattle.claims_columns.specs.Barogram.{of_family, ColumnsRefused, absent, IsCell}
use Rattle.claims_columns.proofs.Answers as answers
use Rattle.claims_columns.proofs.Answers.{met, Stands, stands}
use Rattle.claims_columns.proofs.Marks.{look_unmarked}
use Rattle.claims_columns.proofs.Refusals.{refused_there, refused_here, never_full, untold_absent}

-- the mark never comes from a column: no look for a code, in any line and any entries, says it
pub mark_is_no_number : (l : List ℕ) (es : Layout) (name : List ℕ) (z : Signed) → look_number l es name ≡ says z → z.value ≡ no_number → ⊥
mark_is_no_number = look_unmarked

module _ (file : List ℕ) (letter : ℕ) (codes : List ℕ) (list : List ℤ) (r : Result ℕ Refusal) (after : List ℤ) (w : FileColumned file letter codes list r after) where
  -- refused exactly in this order: the file's own, then 17 for the letter, 17 for the codes, 19, 18
  pub columns_refused_first : (n l b : ℕ) → (result_told r ≡ refuses n l b) ↔ ColumnsRefused file letter codes (length list) n l b
  columns_refused_first n l b = (
    (λ e. refused_there file letter codes (length list) n l b (sym w.told ∙ e)),
    (λ x. w.told ∙ refused_here file letter codes (length list) n l b x),
  )

  -- nothing of the list changes then
  pub columns_leave : (n l b : ℕ) → result_told r ≡ refuses n l b → after ≡ list
  columns_leave = answers.leaves file letter codes list r after w

  -- no table is lent, so 15 is not met
  pub columns_never_full : (n l b : ℕ) → result_told r ≡ refuses n l b → n ≡ 15 → ⊥
  columns_never_full n l b e = never_full file letter codes (length list) n l b ((columns_refused_first n l b).0 e)

  -- 19 where no line of the file tells a layout for the family
  pub columns_untold : (m : Meets columns_seal file) (g : Family) → family_of letter ≡ Some g → are_codes codes ≡ true → Each (λ l. get_or l 0 0 ≡ layout_letter g → ⊥) (lines_in m.parts) → result_told r ≡ refuses 19 0 0
  columns_untold m g o c u = (columns_refused_first 19 0 0).1 (absent m g o c (untold_absent file m g codes c u))

  module _ (n : ℕ) (e : result_told r ≡ says n) where
    s : Stands file letter codes list r after w n
    s = stands file letter codes list r after w n e

    -- the file meets the grammar, and the letter is that of a family
    pub columns_accept : Meets columns_seal file × ((g : Family) × (family_of letter ≡ Some g))
    columns_accept = ((met file s.flight s.accepted).0, (s.family, s.of))

    -- the list keeps its length, and the numbers past the last row stay
    pub columns_rest : (length after ≡ length list) × (drop (n * (length codes / 3)) after ≡ drop (n * (length codes / 3)) list)
    columns_rest = answers.stays file letter codes list r after w n s

    module _ (m : Meets columns_seal file) (g : Family) (o : family_of letter ≡ Some g) where
      -- the answer is how many lines of that family the file has, and the list has room for their rows
      pub columns_count : (n ≡ beginning (line_letter g) (lines_in m.parts)) × (n * (length codes / 3) ≤ length list)
      columns_count = answers.counts file letter codes list r after w n s m g o

      -- number i * k + c of the list is what the look for code c gives in the reading of line i of the family, by the file's layout for it; rows and codes count from 0, and k is the number of codes
      pub columns_cells : (i c : ℕ) → i < n → c < length codes / 3
          → IsCell g (layout_of g m.layouts) (get_or (of_family g (lines_in m.parts)) i []) (get_or (names_of codes) c []) (get_or after (i * (length codes / 3) + c) (pos 0))
      columns_cells = answers.cells file letter codes list r after w n s m g o
