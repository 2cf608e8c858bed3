-- What the tables of examples share: answers as numbers, a test over a whole table, and one name that unfolds every definition.
use Prim.Native.Nat.{ℕ}
use Prim.Native.String.{String}
use mathlib.Core.Bool.{Bool, true, false, ◌&&◌}
use mathlib.Core.List.{List, [], ◌∷◌, ◌++◌}
use lib.Dec.{eqb}
use lib.IntN.{ℤ}
use Rattle.rules.specs.Roles.{stage_after}
use Rattle.rules.specs.Families.{family_of}
use Rattle.rules.specs.Choice.{on, first_of, leads, bytes}
use Rattle.rules.specs.Refusals.{number, Said, says, refuses, result_told}
use Rattle.rules.specs.Chars.{is_valid, first_invalid, characters, is_digit, is_code, codes_at}
use Rattle.rules.specs.Numbers.{spell, number_at, whole_of, digits_of}
use Rattle.rules.specs.Fields.{is_second, time_at, time_text, is_leap, days_of, year_of, date_at, date_text, is_either, position_at, position_text, altitude_at, altitude_text}
use Rattle.rules.specs.Listed.{code_at, is_code_word, listed, listed_number, width_fits, is_digits, keeps_sign, keeps_rule, is_zeros, is_past, keeps_limit}
use Rattle.rules.specs.Layouts.{look, carries, placed, entry_at, entries_from, layout_fields, is_spelt, all_placed, is_unused, allowed, line_length, bad_column, columns, word_from, presence_of, presence_said, length_said}
use Rattle.rules.specs.Lines.{kind_of, is_sized, shaped, a_line, is_date_mark, date_line, h_line, layout_line, planned_at, head_fields, head_line, point_line, d_line, e_line, bad_pair, f_line, fix_fields, at_limit, shaped_by, b_line, extra_line, columned_line}
use Rattle.rules.specs.Split.{text, lines_of, offsets, begins_crlf, first_crlf, is_start, bounds_of, line_text, step_at}
use Rattle.rules.specs.Order.{fits_declaration, order_of, passing, timed, declaration_line, header_line, ruled, judge}
use Rattle.rules.specs.Files.{finish, run, verdict, good_lines, table_after}
use Rattle.rules.specs.Fixes.{reach_of, finer_of, decimals_of, digits_at, refined, fine_position, fix_of, plain, plain_position, fields_of}
use Rattle.rules.specs.Reads.{fix_said, extra_said, reading, event_said, satellites_said, date_said, layout_said, head_said, point_said, head_rest, point_rest}
use Rattle.rules.specs.Looks.{twice, is_inside, are_inside, fits_line, look_said, look_text, look_number}
use Rattle.rules.specs.Writes.{fields_text, fix_text, extra_text, entry_text, entry_texts, layout_text, planned_text, head_text, point_text, same_fix, same_integer, same_head, same_point, is_fix, is_extra, is_head, is_point, written, out_after}
use Rattle.rules.specs.Listing.{decimal_in, decimal, refused_text, ok_text, fix_shown, column_shown, columns_shown, line_shown, fixes_shown, listed_as, listing}

-- to unfold this is to unfold all that is computed here
unfoldable pub everything : Unit {0}
unfolding on first_of leads bytes number result_told is_valid first_invalid characters is_digit is_code codes_at spell number_at whole_of digits_of is_second time_at time_text is_leap days_of year_of date_at date_text is_either position_at position_text altitude_at altitude_text code_at is_code_word listed listed_number width_fits is_digits keeps_sign keeps_rule is_zeros is_past keeps_limit look carries placed entry_at entries_from layout_fields is_spelt all_placed is_unused allowed line_length bad_column columns word_from presence_of presence_said length_said kind_of is_sized shaped a_line is_date_mark date_line h_line layout_line planned_at head_fields head_line point_line d_line e_line bad_pair f_line fix_fields at_limit shaped_by b_line extra_line columned_line family_of text lines_of offsets begins_crlf first_crlf is_start bounds_of line_text step_at stage_after fits_declaration order_of passing timed declaration_line header_line ruled judge finish run verdict good_lines table_after reach_of finer_of decimals_of digits_at refined fine_position fix_of plain plain_position fields_of fix_said extra_said reading event_said satellites_said date_said layout_said head_said point_said head_rest point_rest twice is_inside are_inside fits_line look_said look_text look_number fields_text fix_text extra_text entry_text entry_texts layout_text planned_text head_text point_text same_fix same_head same_point is_fix is_extra is_head is_point written out_after decimal_in decimal refused_text ok_text fix_shown column_shown columns_shown line_shown fixes_shown listed_as listing
everything = tt

-- each line with its CR LF
unfoldable pub file_of : List String → List ℕ
unfolding bytes
file_of [] = []
file_of (s ∷ ss) = bytes s ++ 13 ∷ 10 ∷ file_of ss

-- two answers are the same
unfoldable pub agree : Said ℤ → Said ℤ → Bool
agree (says v) (says w) = same_integer v w
agree (says v) (refuses n l b) = false
agree (refuses n l b) (says w) = false
agree (refuses n l b) (refuses n' l' b') = eqb n n' && eqb l l' && eqb b b'

-- a line or a file, what is asked of it, and the answer that document 01 gives
pub record Example : Type 0 where
  pub given : List ℕ
  pub asked : List ℕ → Said ℤ
  pub answer : Said ℤ

-- every example of a table has its answer
unfoldable pub hold : List Example → Bool
unfolding agree
hold [] = true
hold (e ∷ es) = agree (e.asked e.given) e.answer && hold es
