-- What can be read where no table was lent, and each column of a line that was read, what is claimed. Its words stand in specs/ (Untabled, Column) and in demands (Readings, Grammar).
-- Assumes nothing.
--
-- How these definitions are the library's answers: `check_file::check_untabled` answers `verdict seal file none` (promise FileJudged), the readers in `read` answer `reading` (FixGiven,
-- ExtraGiven), and the look in `look` answers `look_said`, `look_text` and `look_number` (LookGiven, LookTextGiven, LookNumberGiven).
use Rattle.std.specs.Prelude.{None, Some}
use Prim.Native.Nat.{ℕ, ◌≤◌}
use mathlib.Core.List.{List, [], ◌∷◌}
use mathlib.Core.Path.{◌≡◌, ap}
use native.Mathlib.Omega.{arith}
use lib.IntN.{pos, neg_ℤ}
use lib.ListN.{length, replicate, length-replicate}
use Rattle.rules.specs.Choice.{bytes}
use Rattle.rules.specs.Files.{verdict}
use Rattle.rules.specs.Looks.{look_said, look_number}
use Rattle.rules.specs.Reads.{ValueOf, Reading, reading}
use Rattle.rules.specs.Refusals.{says, refuses}
use Rattle.rules.specs.declared.Family.{Family}
use Rattle.rules.specs.declared.Family.TheVariants as family
use Rattle.rules.specs.declared.Flight.{Flight}
use Rattle.rules.specs.declared.Seal.{Seal}
use Rattle.rules.specs.declared.Seal.TheVariants as seal
use Rattle.rules.proofs.Computed.{file_of}
use Rattle.rules.proofs.Damaged.{five_lines}
use Rattle.grammar.specs.BothWays.{Slotted}
use Rattle.grammar.specs.Readings.{IsName, Readable}
use Rattle.grammar.proofs.Demands.{accepted_as, readable}
use Rattle.grammar_readable.specs.Column.{ColumnLooked}
use Rattle.grammar_readable.specs.Untabled.{ReadableUntabled}
use Rattle.grammar_readable.proofs.Looked.{entries_fit, looked}
use Rattle.grammar_readable.proofs.Worked as worked
use Rattle.grammar_readable.proofs.Worked.{long_columns, long_line, three_columns, three_line, its_fix, three_slots, three_read, text_of, five_said, five_accepted}

-- ---- the check without a table

module _ (needs : Seal) (file : List ℕ) (f : Flight) (accepted : verdict needs file None ≡ says f) where
  -- a file that is accepted where no table is lent is accepted with every table that has an entry for each line, and all that can be read with that table can be read
  pub readable_with_table : (table : List ℕ) → f.lines ≤ length table → Readable needs file table f
  readable_with_table table h =
      let w = (accepted_as needs file None f).0 accepted in
      readable needs file table f ((accepted_as needs file (Some (length table)) f).1 (w.0, omega (arith, h, ap (λ (x : Flight). x.lines) w.2), w.2))

  -- and what needs no table can be read without one: the lines step by step, the date, the layouts, each line column by column, the declaration
  pub readable_untabled : ReadableUntabled file f
  readable_untabled =
      let r = readable_with_table (replicate f.lines 0) (omega (arith, length-replicate {A = ℕ} f.lines 0)) in
      record {
        lines = r.lines;
        bytes = r.bytes;
        texts = r.texts;
        lengths = r.lengths;
        counted = r.counted;
        counts = r.counts;
        stepping = r.stepping;
        date = r.date;
        reads = r.reads;
        untold = r.untold;
        layouts = r.layouts;
        presence = r.presence;
        declaration = r.declaration;
      }

-- ---- the columns of a line that was read

-- "text and numbers are those of before": a B, a K or an N line reads by a layout. Then for every code the look into the entries of the reading gives the bytes of the line from the
-- entry's first to its last, and as a number what their digits spell, or 20; or, where no entry has the code, 19
pub columns_of_reading : (family : Family) (l : List ℕ) (i : Slotted) (r : Reading (ValueOf family)) → reading family l i.layout ≡ says r
    → (r.entries ≡ i.layout) × ((name : List ℕ) → IsName name → ColumnLooked l r.entries name)
columns_of_reading family l i r e = let t = entries_fit family l i.layout i.slots r e in (t.0, λ name n. looked l r.entries name n t.1)

-- ---- worked

-- so of document 01's file of five lines
pub five_readable : ReadableUntabled five_lines five_said
five_readable = readable_untabled seal.Strict five_lines five_said five_accepted

-- and of the columns of a line with a number, a number with a minus and a text that is none
pub three_looked : (name : List ℕ) → IsName name → ColumnLooked three_line three_columns name
three_looked = (columns_of_reading family.B three_line (record { layout = three_columns; slots = three_slots }) (record { value = its_fix; entries = three_columns }) three_read).1

-- computed: texts and numbers, 20 and 19
pub three_given : (text_of "FXA" ≡ bytes "012") × (text_of "ZZZ" ≡ bytes "-07") × (text_of "YYY" ≡ bytes "A8") × (text_of "ENL" ≡ [])
    × (look_number three_line three_columns (bytes "FXA") ≡ says (record { value = pos 12 })) × (look_number three_line three_columns (bytes "ZZZ") ≡ says (record { value = neg_ℤ (pos 7) }))
    × (look_number three_line three_columns (bytes "YYY") ≡ refuses 20 0 0) × (look_number three_line three_columns (bytes "ENL") ≡ refuses 19 0 0)
three_given = ((worked.three_texts).0, (worked.three_texts).1, (worked.three_texts).2, (worked.three_texts).3, (worked.three_numbers).0, (worked.three_numbers).1, (worked.three_numbers).2, (worked.three_numbers).3)

-- at the limits: 18 digits are a number, with a minus too; 19 digits, and a minus alone, are none
pub long_given : (look_number long_line long_columns (bytes "ZZZ") ≡ says (record { value = pos 123456789012345678 })) × (look_number long_line long_columns (bytes "YYY") ≡ refuses 20 0 0)
    × (look_number long_line long_columns (bytes "XXX") ≡ says (record { value = neg_ℤ (pos 123456789012345678) })) × (look_number long_line long_columns (bytes "WWW") ≡ refuses 20 0 0)
long_given = worked.long_numbers

-- a line that is a byte short does not read, and the look with it into the entries of the other line is 17; a file without an H line is not accepted
pub not_read : (reading family.B (bytes "B1200005130000N00015000WA0010000120012-07A") three_columns ≡ refuses 7 0 0)
    × (look_said (bytes "B1200005130000N00015000WA0010000120012-07A") three_columns (bytes "FXA") ≡ refuses 17 0 0) × (verdict seal.Strict (file_of ("AXYZ001" ∷ "GABC" ∷ [])) None ≡ refuses 6 2 1)
not_read = ((worked.no_reading).0, (worked.no_reading).1, worked.no_date_lem)
