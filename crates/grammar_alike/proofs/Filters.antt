-- What an accepted file says is told by its lines of each kind: its date, its layouts, its counts, and whether it is signed. Assumes nothing.
use Rattle.std.specs.Prelude.{Option, Some}
use Prim.Native.Nat.{ℕ}
use Prim.Native.Char.{code}
use mathlib.Core.List.{List, [], ◌∷◌, append-nil}
use mathlib.Core.Path.{◌≡◌, refl, sym, ◌∙◌, ap, subst}
use native.Mathlib.Omega.{arith}
use lib.Dec.{leb}
use lib.ListN.{length, get_or, replicate, length-replicate}
use Rattle.rules.specs.Choice.{Each}
use Rattle.rules.specs.Families.{line_letter, layout_letter, layout_of}
use Rattle.rules.specs.Files.{verdict}
use Rattle.rules.specs.Layouts.{empty_layout}
use Rattle.rules.specs.Reads.{date_said}
use Rattle.rules.specs.Refusals.{says}
use Rattle.rules.specs.Split.{end, lines_of}
use Rattle.rules.specs.declared.Family.{Family}
use Rattle.rules.specs.declared.Flight.{Flight}
use Rattle.rules.specs.declared.Layouts.{Layouts}
use Rattle.rules.specs.declared.Seal.{Seal}
use Rattle.rules_laws.proofs.Splitting.{texts_of}
use Rattle.grammar.specs.Coming.{those}
use Rattle.grammar.specs.Grammar.{IsText, lines_in, join_lines, Meets, flight_of}
use Rattle.grammar.specs.Readings.{ReadsLine, Readable}
use Rattle.grammar.proofs.Demands.{accepted_as, readable, dates_exactly}
use Rattle.grammar.proofs.Reading.{texts_before, lines_are}
use Rattle.grammar.proofs.Sections.{before, lines_joined}
use Rattle.grammar_alike.specs.Alike.{LayoutBy, ByKind}
use Rattle.grammar_alike.proofs.Letters.{those_many, those_each, those_none}

-- a file that is these texts, each with its CR LF, is cut into them
pub cut_as : (file : List ℕ) (ls : List (List ℕ)) → file ≡ join_lines ls → Each IsText ls → texts_of (lines_of file) ≡ ls
unfolding lines_of
cut_as file ls e h =
    let c : lines_of file ≡ before ls end = ap lines_of (e ∙ sym (append-nil (join_lines ls))) ∙ lines_joined ls [] h in
    ap texts_of c ∙ texts_before ls

-- ---- the date

-- line 2 is the first H line
first_h : {seal : Seal} {file : List ℕ} (m : Meets seal file) → get_or (those (code "H") (lines_in m.parts)) 0 [] ≡ m.parts.day
unfolding those
first_h m = rw (m.keeps.recorder.letter, m.keeps.day.text)

-- ---- the layouts

module _ (layouts : Layouts) (x : Family) (ls : List (List ℕ)) (reads : Each (ReadsLine layouts) ls) (untold : Each (λ l. get_or l 0 0 ≡ layout_letter x → ⊥) ls → layout_of x layouts ≡ empty_layout) where
  layout_by_lem : LayoutBy x (layout_of x layouts) (those (layout_letter x) ls)
  layout_by_lem = by (those (layout_letter x) ls) refl (those_each (ReadsLine layouts) (layout_letter x) ls reads)
    where
      by : (ks : List (List ℕ)) → those (layout_letter x) ls ≡ ks → Each (λ l. ReadsLine layouts l × (get_or l 0 0 ≡ layout_letter x)) ks → LayoutBy x (layout_of x layouts) ks
      by [] e h = untold (those_none (layout_letter x) ls (ap length e))
      by (k ∷ ks) e h = (h.0.0.tells x h.0.1).reads

-- ---- the whole

module _ (seal : Seal) (file : List ℕ) (room : Option ℕ) (f : Flight) (accepted : verdict seal file room ≡ says f) where
  abbrev met : (m : Meets seal file) × (flight_of m ≡ f)
  met = let a = (accepted_as seal file room f).0 accepted in (a.0, a.2)

  abbrev lines : List (List ℕ)
  lines = texts_of (lines_of file)

  -- a table that has room for each line
  abbrev table : List ℕ
  table = replicate (length (lines_in met.0.parts)) 0

  with_table : verdict seal file (Some (length table)) ≡ says f
  with_table =
      let n : length table ≡ length (lines_in met.0.parts) = length-replicate (length (lines_in met.0.parts)) 0 in
      (accepted_as seal file (Some (length table)) f).1 (met.0, omega (arith, n), met.1)

  abbrev read : Readable seal file table f
  read = readable seal file table f with_table

  read_lines : read.lines ≡ lines
  read_lines = sym (cut_as file read.lines read.bytes read.texts)

  pub by_kind : ByKind f lines
  by_kind =
      let m = met.0 in
      let same : lines ≡ lines_in m.parts = lines_are file m in
      record {
        date =
            ap (λ (ls : List (List ℕ)). date_said (get_or (those (code "H") ls) 0 [])) same ∙ ap date_said (first_h m) ∙ (dates_exactly m.date m.parts.day).1 m.keeps.day
            ∙ ap (λ (x : Flight). says x.date) met.1;
        layouts = λ x. subst (λ (ls : List (List ℕ)). LayoutBy x (layout_of x f.layouts) (those (layout_letter x) ls)) read_lines (layout_by_lem f.layouts x read.lines read.reads (read.untold x));
        counts = λ x. read.counts x ∙ those_many (line_letter x) read.lines ∙ ap (λ (ls : List (List ℕ)). length (those (line_letter x) ls)) read_lines;
        signed =
            sym (ap (λ (x : Flight). x.signed) met.1) ∙ ap (leb 1) (those_many (code "G") (lines_in m.parts)) ∙ ap (λ (ls : List (List ℕ)). leb 1 (length (those (code "G") ls))) (sym same);
      }
