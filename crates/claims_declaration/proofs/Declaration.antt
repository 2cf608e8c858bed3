-- The declaration of a whole file, what is claimed. Its words stand in specs/Demanded. Assumes nothing.
--
-- Of every answer r and every list afterwards that the promise of `declaration::declaration` allows: what is refused first, that nothing changes then, how many points there are, that the head's
-- values are those of the single reader of its line, that the values of point i are those of the single reader of the line i behind the head, and where their texts stand; and that notes and added columns change nothing but places.
use Rattle.rules.specs.declared.Refusal.{Refusal}
use Rattle.std.specs.Prelude.{Result}
use Prim.Native.Nat.{ℕ, ◌*◌, ◌≤◌}
use Prim.Native.Char.{code}
use mathlib.Core.List.{List}
use mathlib.Core.Logic.{◌↔◌}
use mathlib.Core.Path.{◌≡◌, sym, ap, ◌∙◌}
use native.Mathlib.Omega.{arith}
use lib.ListN.{length, drop}
use Rattle.rules.specs.Choice.{Each}
use Rattle.rules.specs.Refusals.{says, refuses, result_told}
use Rattle.rules.specs.Split.{lines_of}
use Rattle.rules_laws.proofs.Splitting.{texts_of}
use Rattle.grammar.specs.Coming.{those}
use Rattle.grammar.specs.Grammar.{Meets, lines_in}
use Rattle.grammar.specs.Readings.{NoC}
use Rattle.grammar.proofs.Reading.{lines_are}
use Rattle.grammar_wider.specs.Wider.{WiderFile}
use Rattle.grammar_alike.specs.Alike.{without_l}
use Rattle.grammar_alike.proofs.Letters.{kinds_alike}
use Rattle.declaration.specs.Declaration.{declaration_seal, FileDeclared}
use Rattle.declaration.specs.declared.Declared.{Declared}
use Rattle.claims_declaration.specs.Demanded.{point_lines, DeclarationRefused, Tells, SameButPlaces}
use Rattle.claims_declaration.proofs.Answers as answers
use Rattle.claims_declaration.proofs.Alike.{tells_alike, wider_same}
use Rattle.claims_declaration.proofs.Answers.{met, refused_there, refused_here, never_full, Stands, stands}

module _ (file list : List ℕ) (r : Result Declared Refusal) (after : List ℕ) (w : FileDeclared file list r after) where
  -- refused exactly in this order: the file's own, then 18
  pub declaration_refused_first : (n l b : ℕ) → (result_told r ≡ refuses n l b) ↔ DeclarationRefused file (length list) n l b
  declaration_refused_first n l b = (
    (λ e. refused_there file (length list) n l b (sym w.told ∙ e)),
    (λ x. w.told ∙ refused_here file (length list) n l b x),
  )

  -- nothing of the list changes then
  pub declaration_leaves : (n l b : ℕ) → result_told r ≡ refuses n l b → after ≡ list
  declaration_leaves = answers.leaves file list r after w

  -- no table is lent, so 15 is not met
  pub declaration_never_full : (n l b : ℕ) → result_told r ≡ refuses n l b → n ≡ 15 → ⊥
  declaration_never_full n l b e = never_full file (length list) n l b ((declaration_refused_first n l b).0 e)

  module _ (d : Declared) (e : result_told r ≡ says d) where
    s : Stands file list r after w d
    s = stands file list r after w d e

    -- the file meets the grammar
    pub declaration_accepts : Meets declaration_seal file
    declaration_accepts = met file s.flight s.accepted

    -- the list keeps its length, and the numbers past the last point's stay
    pub declaration_rest : (length after ≡ length list) × (drop (d.points * 6) after ≡ drop (d.points * 6) list)
    declaration_rest = answers.stays file list r after w d s

    module _ (m : Meets declaration_seal file) where
      -- as many points as there are C lines behind the first, and the list has room for them
      pub declaration_count : (d.points ≡ point_lines (lines_in m.parts)) × (d.points * 6 ≤ length list)
      declaration_count = (answers.counting file list r after w d s m, answers.fits file list r after w d s)

      -- there are none exactly where the file has no C line
      pub declaration_none : (d.points ≡ 0) ↔ Each NoC (lines_in m.parts)
      declaration_none = answers.none_exactly file list r after w d s m

      -- what is told: nothing, where there is no C line; else the head as its single reader says it, and its turn points and 4 points, each as its single reader says it, with where their texts stand
      pub declaration_tells : Tells file (lines_in m.parts) d after
      declaration_tells = answers.telling file list r after w d s m

-- ---- two files

module _ (file list : List ℕ) (r : Result Declared Refusal) (after : List ℕ) (w : FileDeclared file list r after) (d : Declared) (e : result_told r ≡ says d)
    (other list' : List ℕ) (r' : Result Declared Refusal) (after' : List ℕ) (w' : FileDeclared other list' r' after') (d' : Declared) (e' : result_told r' ≡ says d') where
  -- where their C lines are the same in the same order, all that is told is, but for places
  pub declaration_alike : those (code "C") (texts_of (lines_of other)) ≡ those (code "C") (texts_of (lines_of file)) → SameButPlaces d d' after after'
  declaration_alike c =
      let m = declaration_accepts file list r after w d e in
      let m' = declaration_accepts other list' r' after' w' d' e' in
      tells_alike file other (lines_in m.parts) (lines_in m'.parts) d d' after after'
      (ap (those (code "C")) (sym (lines_are other m')) ∙ c ∙ ap (those (code "C")) (lines_are file m))
      (declaration_tells file list r after w d e m) (declaration_tells other list' r' after' w' d' e' m')

  -- notes change nothing
  pub declaration_noted : without_l (texts_of (lines_of other)) ≡ without_l (texts_of (lines_of file)) → SameButPlaces d d' after after'
  declaration_noted s = declaration_alike (kinds_alike (texts_of (lines_of file)) (texts_of (lines_of other)) s (code "C") (λ z. omega arith))

  -- nor do added columns
  pub declaration_widened : WiderFile file other → SameButPlaces d d' after after'
  declaration_widened s = declaration_alike (wider_same s)
