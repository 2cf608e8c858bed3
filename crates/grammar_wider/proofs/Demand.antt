-- Demand 3: added columns change nothing old. What it is to add columns is said in specs/Wider, what it is to read as before in specs/Before. The rooms behind this face: one
-- line (OneLine), the lines one after the other (Simulated), what is kept whatever a file says (Kept), the file (WholeFile); files with added columns (Instances,
-- FinerInstances), and files that are none (NotWider). Assumes nothing.
use Rattle.std.specs.Prelude.{Option, Some}
use Prim.Native.Nat.{ℕ, ◌+◌, ◌≤◌}
use mathlib.Core.Bool.{true}
use mathlib.Core.List.{List}
use mathlib.Core.Path.{◌≡◌, refl}
use lib.Dec.{lit≤}
use lib.ListN.{length}
use Rattle.rules.specs.Refusals.{says}
use Rattle.rules.specs.Files.{has_room, verdict}
use Rattle.rules.specs.Reads.{fix_said}
use Rattle.rules.specs.declared.Family.TheVariants as family
use Rattle.rules.specs.declared.Flight.{Flight}
use Rattle.rules.specs.declared.Seal.{Seal}
use Rattle.rules.specs.declared.Seal.TheVariants as seal
use Rattle.rules.proofs.Computed.{everything, file_of}
use Rattle.rules.proofs.Damaged.{five_lines, five_layout, verdict_of_five}
use Rattle.rules.proofs.SignedFiles.{four_lines, two_lines, verdict_of_two}
use Rattle.grammar_wider.specs.Wider.{WiderFile}
use Rattle.grammar_wider.specs.Before.{line_of, put_in, ReadsAsBefore, LayoutsAsBefore}
use Rattle.grammar_wider.proofs.WholeFile.{reads_as_before, layouts_as_before}
use Rattle.grammar_wider.proofs.Instances.{told, enl_between, between, enl_between_four, between_four, two_and_i, put_i_last, others_moved, before_and_moved, no_columns, with_i, put_i, with_j, put_j, with_m, put_m, with_j_and_m, put_m_behind, with_all, put_all, every_kind, all_widened, all_widened_lem, some_widened, some_widened_lem, put_in_lem}
use Rattle.grammar_wider.proofs.FinerInstances.{fix_at, finer_added, finer_added_lem, added_counts, with_lad, lad_kept, lad_kept_lem, kept_counts, at_pole, zeros_added, zeros_added_lem, past_pole, past_pole_lem}
use Rattle.grammar_wider.proofs.NotWider.{five, two, text_changed, text_changed_lem, value_changed, value_changed_lem, left_out, left_out_lem, used_twice, used_twice_lem, rule_broken, rule_broken_lem, character_invalid, character_invalid_lem, wrong_place, wrong_place_lem, too_early, too_early_lem}

module _ (seal : Seal) (file file' : List ℕ) (room room' : Option ℕ) (f : Flight)
    -- take any accepted file, whatever it must have at its end
    (accepted : verdict seal file room ≡ says f)
    -- and add columns to its B lines, K lines or N lines (or several of them): different codes, none yet in that layout, anywhere among the old columns, which may also move,
    -- with the I, J or M line, put in at its place in the order if there was none, telling the new places; the codes and the added text meet their rules
    (wider : WiderFile file file')
    -- and every limit ("A file has 1 to 16,777,216 bytes")
    (limit : length file' ≤ 16777216)
    -- and the table's room, where a table is lent, for the old lines and the I, J and M lines that are put in (`put_in wider`, 0 to 3), still hold
    (fits : has_room room' (f.lines + put_in wider) ≡ true) where
  -- then the new file is accepted, and its first fix, its second and so on read as they did before in every old value and every old column, and so do its K lines
  -- and its N lines; where LAD, LOD or TDS is among the added columns, the count that it makes finer is as before without the extra digits
  pub widened : (f' : Flight) × (verdict seal file' room' ≡ says f') × ReadsAsBefore file file' f f' (put_in wider)
  widened = reads_as_before seal file file' room room' f accepted wider limit fits

  -- and in each layout every old column is as wide as it was
  pub widened_layouts : (f' : Flight) × (verdict seal file' room' ≡ says f') × LayoutsAsBefore file file' f f' (put_in wider)
  widened_layouts = layouts_as_before seal file file' room room' f accepted wider limit fits

-- ---- there are such files, and not every file is one

-- ENL put between FXA and SIU of document 01's file of five lines; ZZZ put first and the old columns in the other order; an I line put in; a J line put in; an M line put in, with
-- no J line and behind one; all three put in; all three changed; those of the B lines and the N lines changed. And with no G line: ENL put between FXA and SIU; an I line put in
-- behind the A line and the H line, where there is no other
pub instances : WiderFile five_lines enl_between × WiderFile five_lines others_moved × WiderFile no_columns with_i × WiderFile no_columns with_j × WiderFile no_columns with_m
    × WiderFile with_j with_j_and_m × WiderFile no_columns with_all × WiderFile every_kind all_widened × WiderFile every_kind some_widened
    × WiderFile four_lines enl_between_four × WiderFile two_lines two_and_i
instances = (between, before_and_moved, put_i, put_j, put_m, put_m_behind, put_all, all_widened_lem, some_widened_lem, between_four, put_i_last)

-- so of the first of these all that is claimed above holds
pub enl_put_in : (f' : Flight) × (verdict seal.Strict enl_between (Some 16) ≡ says f') × ReadsAsBefore five_lines enl_between (five five_layout) f' (put_in between)
unfolding everything file_of
enl_put_in = widened seal.Strict five_lines enl_between (Some 16) (Some 16) (five five_layout) verdict_of_five between (lit≤ tt) (rw put_in_lem.0 refl)

-- and of the last, which is not signed, by the usual check
pub i_put_in : (f' : Flight) × (verdict seal.Usual two_and_i (Some 16) ≡ says f') × ReadsAsBefore two_lines two_and_i two f' (put_in put_i_last)
unfolding everything file_of
i_put_in = widened seal.Usual two_lines two_and_i (Some 16) (Some 16) two verdict_of_two put_i_last (lit≤ tt) (rw put_in_lem.9 refl)

-- with finer digits: LAD and TDS put into document 01's file, where the counts without the extra digits are the old ones; ENL put before the LAD of a file that had it, where the counts
-- and their decimals are the old ones; and zeros of LAD put in at 90 degrees, where other digits are no instance
pub finer_instances : WiderFile five_lines finer_added × WiderFile with_lad lad_kept × WiderFile at_pole zeros_added × (WiderFile at_pole past_pole → ⊥)
finer_instances = (finer_added_lem, lad_kept_lem, zeros_added_lem, past_pole_lem)

-- of the first of these the time and the latitude before and after, each with its decimals, and of the second
pub finer_counts : (fix_said (line_of family.B five_lines 0) five_layout ≡ says (fix_at 43200 0 3090000 0))
    × (fix_said (line_of family.B finer_added 0) (told family.B "I043638FXA3941LAD4242TDS4344SIU") ≡ says (fix_at 432005 1 3090000123 3))
    × (fix_said (line_of family.B with_lad 0) (told family.B "I013639LAD") ≡ says (fix_at 43200 0 30900001234 4))
    × (fix_said (line_of family.B lad_kept 0) (told family.B "I023638ENL3942LAD") ≡ says (fix_at 43200 0 30900001234 4))
finer_counts = (added_counts.0, added_counts.1, kept_counts.0, kept_counts.1)

-- the text of an old column changed; the fix changed; an old column left out; a code used twice; a listed code's text against its rule; an invalid character; the J line,
-- and the M line, put in before the I line
pub no_instances : (WiderFile five_lines text_changed → ⊥) × (WiderFile five_lines value_changed → ⊥) × (WiderFile five_lines left_out → ⊥) × (WiderFile five_lines used_twice → ⊥)
    × (WiderFile five_lines rule_broken → ⊥) × (WiderFile five_lines character_invalid → ⊥) × (WiderFile five_lines wrong_place → ⊥) × (WiderFile five_lines too_early → ⊥)
no_instances = (text_changed_lem, value_changed_lem, left_out_lem, used_twice_lem, rule_broken_lem, character_invalid_lem, wrong_place_lem, too_early_lem)
