-- An accepted file is signed exactly when it has a G line; and the strict check, told by what the usual one says. Assumes nothing.
use Rattle.std.specs.Prelude.{Option}
use Prim.Native.Nat.{ℕ, ◌+◌, ◌≤◌}
use Prim.Native.Char.{code}
use mathlib.Core.Bool.{Bool, true, false, cond}
use mathlib.Core.List.{List, [], ◌∷◌, ◌++◌, append-nil}
use mathlib.Core.Logic.{◌⊎◌, inl, inr, ◌↔◌}
use mathlib.Core.Path.{◌≡◌, refl, sym, ◌∙◌, ap, subst}
use native.Mathlib.Omega.{arith}
use borrow.Author.Tests.{le-leb, leb-true, eqb-true, eq-eqb}
use lib.Dec.{eqb}
use lib.ListN.{get_or}
use Rattle.rules.specs.Choice.{Each}
use Rattle.rules.specs.Refusals.{Said, says, refuses, number}
use Rattle.rules.specs.Split.{lines_of, end}
use Rattle.rules.specs.Files.{verdict}
use Rattle.rules.specs.declared.Reason.TheVariants.{EndsEarly}
use Rattle.rules.specs.declared.Flight.{Flight}
use Rattle.rules.specs.declared.Seal.{Seal}
use Rattle.rules.specs.declared.Seal.TheVariants as seal
use Rattle.rules.proofs.Inverse.{refuses_says}
use Rattle.rules_laws.proofs.Splitting.{texts_of}
use Rattle.rules_laws.proofs.Signing.{only_signed, strict_adds}
use Rattle.grammar.specs.Grammar.{IsText, join_lines, lines_in, beginning, signed_in}
use Rattle.grammar.specs.Signed.{HasGLine}
use Rattle.grammar.proofs.Sections.{before, lines_joined}
use Rattle.grammar.proofs.Accepted.{accepted_as}
use Rattle.grammar.proofs.Reading.{texts_before, lines_are}

-- ---- signed exactly when a G line exists

-- one line of those that begin with a letter
record Among (x : ℕ) (ls : List (List ℕ)) : Type 0 where
  front : List (List ℕ)
  line : List ℕ
  back : List (List ℕ)
  order : ls ≡ front ++ (line ∷ back)
  letter : get_or line 0 0 ≡ x

among : (x : ℕ) (ls : List (List ℕ)) → 1 ≤ beginning x ls → Among x ls
unfolding beginning
among x [] h = absurd (omega arith)
among x (l ∷ ls) h = by (eqb (get_or l 0 0) x) refl h (among x ls)
  where
    by : (b : Bool) → eqb (get_or l 0 0) x ≡ b → 1 ≤ cond b 1 0 + beginning x ls → (1 ≤ beginning x ls → Among x ls) → Among x (l ∷ ls)
    by true e h f = record { front = []; line = l; back = ls; order = refl; letter = eqb-true _ _ e }
    by false e h f =
        let a = f (omega arith) in
        record { front = l ∷ a.front; line = a.line; back = a.back; order = ap (λ y. l ∷ y) a.order; letter = a.letter }

counted_among : (x : ℕ) (front : List (List ℕ)) (l : List ℕ) (back : List (List ℕ)) → get_or l 0 0 ≡ x → 1 ≤ beginning x (front ++ (l ∷ back))
unfolding beginning
counted_among x [] l back e = rw (eq-eqb (get_or l 0 0) x e) (omega arith)
counted_among x (k ∷ front) l back e = omega (arith, counted_among x front l back e)

module _ (needs : Seal) (file : List ℕ) (room : Option ℕ) (f : Flight) (accepted : verdict needs file room ≡ says f) where
  pub signed_exactly : (f.signed ≡ true) ↔ HasGLine file
  unfolding lines_of
  signed_exactly =
      let w = (accepted_as needs file room f).0 accepted in
      let m = w.0 in
      let s : signed_in (lines_in m.parts) ≡ f.signed = ap (λ (x : Flight). x.signed) w.2 in (
        λ e.
            let a = among (code "G") (lines_in m.parts) (leb-true _ _ (s ∙ e)) in
            record {
              before = a.front;
              line = a.line;
              after = a.back;
              bytes = m.bytes ∙ ap join_lines a.order;
              texts = subst (Each IsText) a.order m.texts;
              letter = a.letter;
            },
        λ g.
            let ls = g.before ++ (g.line ∷ g.after) in
            let cut : lines_of file ≡ before ls end = ap lines_of (g.bytes ∙ sym (append-nil (join_lines ls))) ∙ lines_joined ls [] g.texts in
            let same : lines_in m.parts ≡ ls = sym (lines_are file m) ∙ ap texts_of cut ∙ texts_before ls in
            sym s ∙ ap signed_in same ∙ le-leb _ _ (counted_among (code "G") g.before g.line g.after g.letter),
      )

-- ---- the strict check, told by what the usual one says

module _ (file : List ℕ) (room : Option ℕ) where
  abbrev usual : Said Flight
  usual = verdict seal.Usual file room

  pub strict_accepts : (f : Flight) → (verdict seal.Strict file room ≡ says f) ↔ ((usual ≡ says f) × (f.signed ≡ true))
  unfolding only_signed
  strict_accepts f = (λ e. go usual refl (sym (strict_adds room file) ∙ e), λ h. strict_adds room file ∙ back h.0 h.1)
    where
      chosen : (g : Flight) (b : Bool) → g.signed ≡ b → cond b (says g) (refuses (number EndsEarly) (g.lines + 1) 0) ≡ says f → (says g ≡ says f) × (f.signed ≡ true)
      chosen g true e h = let q : g ≡ f = cc in (h, ap (λ (x : Flight). x.signed) (sym q) ∙ e)
      chosen g false e h = absurd (refuses_says h)

      go : (s : Said Flight) → usual ≡ s → only_signed s ≡ says f → (usual ≡ says f) × (f.signed ≡ true)
      go (says g) e h = let c = chosen g g.signed refl h in (e ∙ c.0, c.1)
      go (refuses n l b) e h = absurd (refuses_says h)

      back : usual ≡ says f → f.signed ≡ true → only_signed usual ≡ says f
      back e h = rw (e, h)

  -- what it refuses besides: a file that is not signed
  abbrev Besides : ℕ → ℕ → ℕ → Type 0
  Besides n l b = (f : Flight) × (usual ≡ says f) × (f.signed ≡ false) × (n ≡ 16) × (l ≡ f.lines + 1) × (b ≡ 0)

  pub strict_refuses : (n l b : ℕ) → (verdict seal.Strict file room ≡ refuses n l b) ↔ ((usual ≡ refuses n l b) ⊎ Besides n l b)
  unfolding only_signed number
  strict_refuses n l b = (λ e. go usual refl (sym (strict_adds room file) ∙ e), λ h. strict_adds room file ∙ back h)
    where
      chosen : (g : Flight) (x : Bool) → usual ≡ says g → g.signed ≡ x → cond x (says g) (refuses (number EndsEarly) (g.lines + 1) 0) ≡ refuses n l b → Besides n l b
      chosen g true u e h = absurd (refuses_says (sym h))
      chosen g false u e h = (g, u, e, cc, cc, cc)

      go : (s : Said Flight) → usual ≡ s → only_signed s ≡ refuses n l b → (usual ≡ refuses n l b) ⊎ Besides n l b
      go (says g) e h = inr (chosen g g.signed e refl h)
      go (refuses k i j) e h = inl (e ∙ h)

      back : (usual ≡ refuses n l b) ⊎ Besides n l b → only_signed usual ≡ refuses n l b
      back (inl e) = rw e
      back (inr w) = rw (w.1, w.2, w.3, w.4, w.5)
