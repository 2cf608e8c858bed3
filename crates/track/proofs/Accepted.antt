-- What the track needs of an accepted file: it is short enough, each of its B lines reads, and they are counted. Assumes nothing.
use Rattle.std.specs.Prelude.{None, Some}
use Prim.Native.Nat.{ℕ, ◌+◌, ◌-◌, ◌≤◌}
use mathlib.Core.List.{List, []}
use mathlib.Core.Path.{◌≡◌, sym, ap, subst, ◌∙◌}
use native.Mathlib.Omega.{arith}
use borrow.Author.Tests.{leb-true, le-leb}
use lib.Dec.{leb}
use lib.ListN.{length, get_or}
use lib.Seq.{ext_get_or}
use Rattle.rules.specs.Choice.{Each}
use Rattle.rules.specs.Families.{first_start, count_of, layout_of, line_letter}
use Rattle.rules.specs.Files.{verdict, good_lines}
use Rattle.rules.specs.Layouts.{entries_of, allowed, line_length, length_said}
use Rattle.rules.specs.Refusals.{says, value_or}
use Rattle.rules.specs.Split.{lines_of, offsets}
use Rattle.rules.specs.declared.Family.{Family}
use Rattle.rules.specs.declared.Flight.{Flight}
use Rattle.rules.specs.declared.Seal.{Seal}
use Rattle.rules.proofs.Inverse.{refuses_says, need_inv}
use Rattle.rules_laws.proofs.Splitting.{texts_of, length_offsets}
use Rattle.rules_laws.proofs.Counted.{tabled, table_adds, line_by_number, lines_counted}
use Rattle.grammar.specs.Grammar.{beginning}
use Rattle.grammar.specs.Coming.{size_of}
use Rattle.grammar.specs.Readings.{ReadsLine, Readable}
use Rattle.grammar.proofs.Demands.{readable}

module _ (seal : Seal) (file : List ℕ) (f : Flight) (accepted : verdict seal file None ≡ says f) where
  pub file_short : length file ≤ 16777216
  unfolding verdict
  file_short =
      let a = need_inv (leb 1 (length file)) _ (says f) _ refuses_says accepted in
      let b = need_inv (leb (length file) 16777216) _ (says f) _ refuses_says a.1 in
      leb-true _ _ b.0

  abbrev texts : List (List ℕ)
  texts = texts_of (lines_of file)

  -- a table that has room for each line, and all that can be read with it
  abbrev table : List ℕ
  table = offsets 0 (lines_of file)

  many : f.lines ≡ length texts
  many = lines_counted seal file None f accepted

  with_table : verdict seal file (Some (length table)) ≡ says f
  unfolding tabled good_lines
  with_table = table_adds seal file (length table) ∙ ap (tabled (length table)) accepted ∙ rw (le-leb f.lines (length table) (omega (arith, many, length_offsets (lines_of file) 0)))

  pub reads : Readable seal file table f
  reads = readable seal file table f with_table

  back_one : (n : ℕ) → n + 1 - 1 ≡ n
  back_one n = omega arith

  -- the lines that are read are those of the file
  pub lines_are : reads.lines ≡ texts
  unfolding good_lines
  lines_are = ext_get_or [] reads.lines texts (omega (arith, many, reads.counted)) λ i h.
      sym (reads.numbered i h)
      ∙ (line_by_number seal file table (i + 1) (omega arith) (rw with_table (omega (arith, reads.counted)))).bytes
      ∙ ap (λ n. get_or texts n []) (back_one i)

  pub texts_read : Each (ReadsLine f.layouts) texts
  texts_read = subst (Each (ReadsLine f.layouts)) lines_are reads.reads

  pub letters_counted : (g : Family) → count_of g f.counts ≡ beginning (line_letter g) texts
  letters_counted g = reads.counts g ∙ ap (beginning (line_letter g)) lines_are

  pub length_told_lem : (g : Family) → value_or 0 (length_said g (layout_of g f.layouts)) ≡ line_length (first_start g) (layout_of g f.layouts)
  unfolding length_said
  length_told_lem g =
      let n = need_inv (allowed (first_start g) (layout_of g f.layouts)) _ (says (size_of g (entries_of (layout_of g f.layouts)))) _ refuses_says (reads.layouts g).long in
      rw n.0
