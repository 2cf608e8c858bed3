-- Document 01, 'The file we take and what we do with it': the verdict on a whole file, and the table of its lines' offsets afterwards.
use Rattle.std.specs.Prelude.{ℕ, ◌+◌, ◌-◌, Bool, true, List, ◌++◌, ◌≡◌, eqb, leb, length, take, drop, None, Option, Some}
use Rattle.rules.specs.Choice.{need}
use Rattle.rules.specs.Refusals.{number, Said, says, refuses, no, in_line, and_then, outcome, value_or, result_told}
use Rattle.rules.specs.Split.{Lines, end, broken, line, lines_of, offsets}
use Rattle.rules.specs.Order.{start, no_flight, judge}
use Rattle.rules.specs.Roles.{after_h, after_g}
use Rattle.rules.specs.declared.Reason.TheVariants.{Empty, TooLong, LineEnd, TableFull, EndsEarly}
use Rattle.rules.specs.declared.Flight.{Flight}
use Rattle.rules.specs.declared.Seal.{Seal}
use Rattle.rules.specs.declared.Seal.TheVariants as seal
use Rattle.rules.specs.declared.State.{State}
use Rattle.rules.specs.declared.Checked.{Checked}

-- the part of the file that its lines must have reached at its end. "The usual check now accepts a file with no G": but not "a file that ends before its second line". "A
-- separate strict check keeps the old rule": "At least one G is needed (h)."
abbrev pub ends_after : Seal → ℕ
ends_after seal.Usual = after_h
ends_after seal.Strict = after_g

-- "16 ENDS_EARLY: end inside a declaration or without G; lines + 1, 0"; "16 in the usual check only for an unfinished declaration, and for a file that ends before its
-- second line"
unfoldable pub finish : Seal → State → Said Flight
finish seal st =
    need (eqb st.points 0) (refuses (number EndsEarly) (st.flight.lines + 1) 0) λ _.
    need (leb (ends_after seal) st.stage) (refuses (number EndsEarly) (st.flight.lines + 1) 0) λ _.
    says st.flight

-- whether the table has an entry for each of so many lines; it always has where no table is lent
abbrev pub has_room : Option ℕ → ℕ → Bool
has_room None lines = true
has_room (Some entries) lines = leb lines entries

-- "Checks go line by line, in a line 3 to 15 in this order." "3 LINE_END: line, one past the text before it"; "15 TABLE_FULL: good line, no entry left; line, 0",
-- where the table has `room` entries, or no table is lent
unfoldable pub run : Seal → Option ℕ → State → Lines → Said Flight
run seal room st end = finish seal st
run seal room st (broken n) = refuses (number LineEnd) (st.flight.lines + 1) (n + 1)
run seal room st (line t ls) =
    and_then (in_line (st.flight.lines + 1) (judge t st)) λ after.
    need (has_room room after.flight.lines) (refuses (number TableFull) after.flight.lines 0) λ _.
    run seal room after ls

-- "One IGC file in lent memory is checked whole." "A file has 1 to 16,777,216 bytes (h)."; "1 EMPTY: no bytes; 0, 0"; "2 TOO_LONG: over the limit; 0, 0"
unfoldable pub verdict : Seal → List ℕ → Option ℕ → Said Flight
verdict seal file room =
    need (leb 1 (length file)) (no Empty 0) λ _.
    need (leb (length file) 16777216) (no TooLong 0) λ _.
    run seal room start (lines_of file)

-- how many lines come before the faulty one; all lines where accepted, and where refused at the end
unfoldable pub good_lines : Said Flight → ℕ
good_lines (says f) = f.lines
good_lines (refuses n l b) = l - 1

-- the entries put over the front of a table
abbrev pub over : List ℕ → List ℕ → List ℕ
over entries table = entries ++ drop (length entries) table

-- "The table gets entries for the lines before the faulty one (16 or accepted: all lines), the rest unchanged."
unfoldable pub table_after : Seal → List ℕ → List ℕ → List ℕ
table_after seal file table = over (take (good_lines (verdict seal file (Some (length table)))) (offsets 0 (lines_of file))) table

-- what the file says stands beside the answer; all zero and not signed where refused
pub record CheckedTold (s : Said Flight) (r : Checked) : Type 0 where
  pub answer : result_told r.outcome ≡ outcome s
  pub flight : r.flight ≡ value_or no_flight s
