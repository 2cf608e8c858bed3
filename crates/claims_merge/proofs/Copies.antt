-- A copy in the grammar's words: its lines up to the last G line, and then its notes, which are L lines. With other notes it is such a file again. Assumes nothing.
use Prim.Native.Nat.{ℕ, ◌≤◌}
use Prim.Native.Char.{code}
use mathlib.Core.Bool.{true, false, or-true}
use mathlib.Core.List.{List, [], ◌∷◌, ◌++◌, append_assoc}
use mathlib.Core.Path.{◌≡◌, refl, sym, ◌∙◌, ap, subst}
use native.Mathlib.Omega.{arith}
use borrow.Author.Tests.{eq-eqb, ne_eqb}
use lib.ListN.{length, get_or, length-append}
use Rattle.rules.specs.Choice.{Each}
use Rattle.rules.specs.Split.{end, lines_of}
use Rattle.rules.specs.declared.Seal.TheVariants as seal
use Rattle.rules_laws.proofs.Splitting.{texts_of}
use Rattle.rules_trips.proofs.Each.{each_map, each_both, each_join, each_cut}
use Rattle.notes_rules.specs.Notes.{joined, is_seal, sealed, common_part, notes_in}
use Rattle.grammar.specs.Grammar.{IsText, IsGLine, IsLLine, Parts, lines_in, join_lines, Keeps, Meets}
use Rattle.claims_merge.specs.Evening.{sealed_part}
use Rattle.grammar.proofs.Sections.{before}
use Rattle.grammar.proofs.Accepted.{lines_cut}
use Rattle.grammar.proofs.Reading.{front, in_three, lines_are}

-- ---- lines joined

pub join_is : (ls : List (List ℕ)) → join_lines ls ≡ joined ls
unfolding join_lines
join_is [] = refl
join_is (l ∷ ls) = ap (λ (x : List ℕ). l ++ 13 ∷ 10 ∷ x) (join_is ls)

pub joined_both : (xs ys : List (List ℕ)) → joined (xs ++ ys) ≡ joined xs ++ joined ys
joined_both [] ys = refl
joined_both (x ∷ xs) ys = rw (joined_both xs ys) (sym (append_assoc x (13 ∷ 10 ∷ joined xs) (joined ys)))

-- ---- lines of which the last is a G line, and lines of which none is

abbrev Closes : List (List ℕ) → Type 0
Closes [] = ⊥
Closes (x ∷ []) = is_seal x ≡ true
Closes (x ∷ y ∷ xs) = Closes (y ∷ xs)

abbrev Open : List (List ℕ) → Type 0
Open = Each (λ l. is_seal l ≡ false)

closes_behind : (xs ys : List (List ℕ)) → Closes ys → Closes (xs ++ ys)
closes_behind [] ys c = c
closes_behind (x ∷ []) [] c = absurd c
closes_behind (x ∷ []) (y ∷ ys) c = c
closes_behind (x ∷ z ∷ xs) ys c = closes_behind (z ∷ xs) ys c

open_sealed : (ys : List (List ℕ)) → Open ys → sealed (before ys end) ≡ false
unfolding sealed
open_sealed [] o = refl
open_sealed (y ∷ ys) o = rw o.0 (open_sealed ys o.1)

open_notes : (ys : List (List ℕ)) → Open ys → notes_in (before ys end) ≡ ys
unfolding notes_in
open_notes [] o = refl
open_notes (y ∷ ys) o = rw (o.0, open_sealed ys o.1) (ap (λ (l : List (List ℕ)). y ∷ l) (open_notes ys o.1))

open_common : (ys : List (List ℕ)) → Open ys → common_part (before ys end) ≡ []
unfolding common_part
open_common [] o = refl
open_common (y ∷ ys) o = rw (o.0, open_sealed ys o.1)

closed_sealed : (xs ys : List (List ℕ)) → Closes xs → sealed (before (xs ++ ys) end) ≡ true
unfolding sealed
closed_sealed [] ys c = absurd c
closed_sealed (x ∷ []) ys c = rw c
closed_sealed (x ∷ z ∷ xs) ys c = rw (closed_sealed (z ∷ xs) ys c) (or-true (is_seal x))

closed_notes : (xs ys : List (List ℕ)) → Closes xs → Open ys → notes_in (before (xs ++ ys) end) ≡ ys
unfolding notes_in
closed_notes [] ys c o = absurd c
closed_notes (x ∷ []) ys c o = rw c (open_notes ys o)
closed_notes (x ∷ z ∷ xs) ys c o = rw (closed_sealed (z ∷ xs) ys c, or-true (is_seal x)) (closed_notes (z ∷ xs) ys c o)

closed_common : (xs ys : List (List ℕ)) → Closes xs → Open ys → common_part (before (xs ++ ys) end) ≡ joined xs
unfolding common_part
closed_common [] ys c o = absurd c
closed_common (x ∷ []) ys c o = rw (c, open_common ys o)
closed_common (x ∷ z ∷ xs) ys c o = rw (closed_sealed (z ∷ xs) ys c, or-true (is_seal x), closed_common (z ∷ xs) ys c o)

closed_bytes : (xs : List (List ℕ)) → Closes xs → 1 ≤ length (joined xs)
closed_bytes [] c = absurd c
closed_bytes (x ∷ xs) c = omega (arith, length-append x (13 ∷ 10 ∷ joined xs))

seals_close : (gs : List (List ℕ)) → Each IsGLine gs → 1 ≤ length gs → Closes gs
seals_close [] h n = absurd (omega arith)
seals_close (g ∷ []) h n = eq-eqb (get_or g 0 0) (code "G") h.0.letter
seals_close (g ∷ k ∷ gs) h n = seals_close (k ∷ gs) h.1 (omega arith)

remarks_open : (ls : List (List ℕ)) → Each IsLLine ls → Open ls
remarks_open ls h = each_map ls (λ l w. ne_eqb (get_or l 0 0) (code "G") (λ e. omega (arith, e, w.letter))) h

-- ---- a file that meets the grammar

module _ (file : List ℕ) (m : Meets seal.Strict file) where
  -- its lines up to the last G line
  abbrev pub sealed_lines : List (List ℕ)
  sealed_lines = (front m.keeps ++ m.parts.body) ++ m.parts.seals

  abbrev pub remarks_of : List (List ℕ)
  remarks_of = m.parts.remarks

  all_lines : lines_in m.parts ≡ sealed_lines ++ remarks_of
  all_lines = in_three m.keeps ∙ simp append_assoc

  closes : Closes sealed_lines
  closes = closes_behind (front m.keeps ++ m.parts.body) m.parts.seals (seals_close m.parts.seals m.keeps.seals m.keeps.sealed)

  cut_is : lines_of file ≡ before (sealed_lines ++ remarks_of) end
  cut_is = lines_cut file m ∙ ap (λ (ls : List (List ℕ)). before ls end) all_lines

  pub common_is : common_part (lines_of file) ≡ joined sealed_lines
  common_is = ap common_part cut_is ∙ closed_common sealed_lines remarks_of closes (remarks_open remarks_of m.keeps.remarks)

  pub notes_is : notes_in (lines_of file) ≡ remarks_of
  notes_is = ap notes_in cut_is ∙ closed_notes sealed_lines remarks_of closes (remarks_open remarks_of m.keeps.remarks)

  pub texts_is : texts_of (lines_of file) ≡ sealed_lines ++ remarks_of
  texts_is = lines_are file m ∙ all_lines

  -- in the grammar's words
  pub sealed_is : common_part (lines_of file) ≡ join_lines (sealed_part m.parts)
  sealed_is =
      let e : sealed_lines ≡ sealed_part m.parts = simp append_assoc in
      common_is ∙ ap joined e ∙ sym (join_is (sealed_part m.parts))

  -- the notes are L lines, and texts
  pub notes_are : Each (λ l. IsLLine l × IsText l) (notes_in (lines_of file))
  notes_are =
      let t = (each_cut IsText sealed_lines remarks_of (subst (Each IsText) all_lines m.texts)).1 in
      subst (Each (λ l. IsLLine l × IsText l)) (sym notes_is) (each_both remarks_of IsLLine IsText m.keeps.remarks t)

  -- with other notes behind the last G line it is a file again
  module _ (zs : List (List ℕ)) (h : Each (λ l. IsLLine l × IsText l) zs) (short : length (joined sealed_lines ++ joined zs) ≤ 16777216) where
    abbrev parts : Parts
    parts = record { recorder = m.parts.recorder; day = m.parts.day; headers = m.parts.headers; told = m.parts.told; body = m.parts.body; seals = m.parts.seals; remarks = zs }

    abbrev keeps : Keeps seal.Strict parts m.date m.layouts m.times
    keeps = record {
      recorder = m.keeps.recorder;
      day = m.keeps.day;
      headers = m.keeps.headers;
      told = m.keeps.told;
      body = m.keeps.body;
      order = m.keeps.order;
      seals = m.keeps.seals;
      sealed = m.keeps.sealed;
      remarks = each_map zs (λ l w. w.0) h;
    }

    all_noted : lines_in parts ≡ sealed_lines ++ zs
    all_noted = in_three keeps ∙ simp append_assoc

    pub meets : Meets seal.Strict (joined sealed_lines ++ joined zs)
    meets = record {
      least = omega (arith, length-append (joined sealed_lines) (joined zs), closed_bytes sealed_lines closes);
      most = short;
      parts = parts;
      bytes = sym (joined_both sealed_lines zs) ∙ ap joined (sym all_noted) ∙ sym (join_is (lines_in parts));
      texts = subst (Each IsText) (sym all_noted) (each_join IsText sealed_lines zs (each_cut IsText sealed_lines remarks_of (subst (Each IsText) all_lines m.texts)).0 (each_map zs (λ l w. w.1) h));
      date = m.date;
      layouts = m.layouts;
      times = m.times;
      keeps = keeps;
    }

-- and it has the same lines up to the last G line, and these notes
module _ (file : List ℕ) (m : Meets seal.Strict file) (zs : List (List ℕ)) (h : Each (λ l. IsLLine l × IsText l) zs) (short : length (joined (sealed_lines file m) ++ joined zs) ≤ 16777216) where
  abbrev noted : List ℕ
  noted = joined (sealed_lines file m) ++ joined zs

  pub noted_common : common_part (lines_of noted) ≡ common_part (lines_of file)
  unfolding meets
  noted_common = common_is noted (meets file m zs h short) ∙ sym (common_is file m)

  pub noted_notes : notes_in (lines_of noted) ≡ zs
  unfolding meets
  noted_notes = notes_is noted (meets file m zs h short)

  pub noted_lines : texts_of (lines_of noted) ≡ sealed_lines file m ++ zs
  unfolding meets
  noted_lines = texts_is noted (meets file m zs h short)
