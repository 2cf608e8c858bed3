-- From the lines to the file: a file with added columns is accepted and reads as before. Assumes nothing.
use Rattle.std.specs.Prelude.{None, Option, Some}
use Prim.Native.Nat.{ℕ, ◌+◌, ◌≤◌}
use mathlib.Core.Bool.{true}
use mathlib.Core.List.{List, [], ◌∷◌}
use mathlib.Core.Path.{◌≡◌, refl, sym, ap, subst, ◌∙◌}
use native.Mathlib.Omega.{arith}
use borrow.Author.Tests.{le-leb}
use lib.Dec.{leb}
use lib.ListN.{length}
use Rattle.rules.specs.Families.{layout_of}
use Rattle.rules.specs.Refusals.{says}
use Rattle.rules.specs.Roles.{role_of, is_declaring, is_event, after_h}
use Rattle.rules.specs.Split.{end, lines_of}
use Rattle.rules.specs.Order.{start}
use Rattle.rules.specs.Files.{has_room, run, verdict, good_lines}
use Rattle.rules.specs.declared.Family.{Family}
use Rattle.rules.specs.declared.Family.TheVariants as family
use Rattle.rules.specs.declared.Flight.{Flight}
use Rattle.rules.specs.declared.Seal.{Seal}
use Rattle.rules.proofs.Inverse.{refuses_says, need_inv}
use Rattle.rules_laws.proofs.Counted.{lines_counted, family_counted, tabled, table_adds}
use Rattle.grammar_wider.specs.Wider.{Extends, WiderFile}
use Rattle.grammar_wider.specs.Before.{lines_of_family, line_of, AsBefore, MoreBits, put_in, ReadsAsBefore, LayoutsAsBefore}
use Rattle.grammar_wider.proofs.Lists.{pair_at}
use Rattle.grammar_wider.proofs.Judged.{wide_flight}
use Rattle.grammar_wider.proofs.Simulated.{front_behind, Went, lines_went}
use Rattle.grammar_wider.proofs.Kept.{others_same, lines_more, family_tallied, presence_more}

-- ---- the table's room is asked for beside the check

without_table : (seal : Seal) (file : List ℕ) (room : Option ℕ) (f : Flight) → verdict seal file room ≡ says f → verdict seal file None ≡ says f
unfolding tabled
without_table seal file None f e = e
without_table seal file (Some n) f e = (need_inv (leb (good_lines (verdict seal file None)) n) _ (says f) _ refuses_says (sym (table_adds seal file n) ∙ e)).1

with_table : (seal : Seal) (file : List ℕ) (room : Option ℕ) (f : Flight) → has_room room f.lines ≡ true → verdict seal file None ≡ says f → verdict seal file room ≡ says f
unfolding tabled good_lines
with_table seal file None f h e = e
with_table seal file (Some n) f h e = table_adds seal file n ∙ ap (tabled n) e ∙ rw h

-- ---- the file

-- a file whose lines say something has bytes
some_bytes : (seal : Seal) (file : List ℕ) (f : Flight) → run seal None start (lines_of file) ≡ says f → 1 ≤ length file
unfolding lines_of
some_bytes seal [] f h = absurd (omega (arith, front_behind seal after_h start (omega arith) end f tt h))
some_bytes seal (b ∷ rest) f h = omega arith

module _ (seal : Seal) (file file' : List ℕ) (room room' : Option ℕ) (f : Flight) (accepted : verdict seal file room ≡ says f) (w : WiderFile file file')
    (long : length file' ≤ 16777216) (fits : has_room room' (f.lines + put_in w) ≡ true) where
  lines_run : run seal None start (lines_of file) ≡ says f
  unfolding verdict
  lines_run =
      let a = need_inv (leb 1 (length file)) _ (says f) _ refuses_says (without_table seal file room f accepted) in
      (need_inv (leb (length file) 16777216) _ (says f) _ refuses_says a.1).1

  went : Went seal start (lines_of file) (lines_of file') f
  went = lines_went seal f w lines_run

  -- what is said of the new file
  said : Flight
  said = wide_flight went.new went.passed.lines f

  tableless : verdict seal file' None ≡ says said
  unfolding verdict said
  tableless = rw (le-leb 1 (length file') (some_bytes seal file' _ went.passed.runs), le-leb (length file') 16777216 long) went.passed.runs

  more_lines : said.lines ≡ f.lines + put_in w
  more_lines = omega (arith, lines_counted seal file' None said tableless, lines_more w, lines_counted seal file room f accepted)

  as_before : ReadsAsBefore file file' f said (put_in w)
  unfolding said
  as_before = record {
    date = refl;
    lines = more_lines;
    counts = λ g. refl;
    signed = refl;
    declaration = others_same (λ k. is_declaring (role_of k)) (λ k g e. ap is_declaring e) (λ k g e. ap is_declaring e) w;
    events = others_same (λ k. is_event (role_of k)) (λ k g e. ap is_event e) (λ k g e. ap is_event e) w;
    others = λ test i c. others_same test i c w;
    columned = λ g n h.
        subst (λ old. AsBefore g (layout_of g old) (layout_of g went.new) (line_of g file n) (line_of g file' n)) (sym went.passed.told)
        (pair_at (AsBefore g (layout_of g went.old) (layout_of g went.new)) [] (lines_of_family g (lines_of file)) (lines_of_family g (lines_of file')) n (went.passed.pairs g)
        (omega (arith, family_counted seal file room f accepted g, family_tallied g (lines_of file))));
    presence = subst (λ old. MoreBits (layout_of family.B old) (layout_of family.B went.new)) (sym went.passed.told)
        (let x = went.fine family.B in presence_more (layout_of family.B went.old) (layout_of family.B went.new) x.2 x.0 x.1);
  }

  layouts_before : (g : Family) → Extends (layout_of g f.layouts) (layout_of g said.layouts)
  unfolding said
  layouts_before g = subst (λ old. Extends (layout_of g old) (layout_of g went.new)) (sym went.passed.told) (went.fine g).2

  pub reads_as_before : (f' : Flight) × (verdict seal file' room' ≡ says f') × ReadsAsBefore file file' f f' (put_in w)
  reads_as_before = (said, with_table seal file' room' said (rw more_lines fits) tableless, as_before)

  pub layouts_as_before : (f' : Flight) × (verdict seal file' room' ≡ says f') × LayoutsAsBefore file file' f f' (put_in w)
  layouts_as_before = (said, with_table seal file' room' said (rw more_lines fits) tableless, record { reads = as_before; layouts = layouts_before })
