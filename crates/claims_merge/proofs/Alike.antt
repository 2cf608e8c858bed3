-- A file that a merge made reads as the first copy does, but for the notes: the lines up to the last G line are the same, and behind them are L lines. Assumes nothing.
use Rattle.std.specs.Prelude.{None}
use Prim.Native.Nat.{ℕ, zero, suc, ◌<◌}
use mathlib.Core.List.{List, [], ◌∷◌, ◌++◌}
use mathlib.Core.Path.{◌≡◌, refl, sym, ◌∙◌, ap, ap₂}
use native.Mathlib.Omega.{arith}
use lib.ListN.{length, get_or}
use Rattle.rules.specs.Choice.{Each}
use Rattle.rules.specs.Refusals.{says}
use Rattle.rules.specs.Split.{lines_of}
use Rattle.rules.specs.Files.{verdict}
use Rattle.rules.specs.declared.Flight.{Flight}
use Rattle.rules.specs.declared.Layouts.{Layouts}
use Rattle.rules.specs.declared.Seal.TheVariants as seal
use Rattle.rules_laws.proofs.Splitting.{texts_of}
use Rattle.rules_trips.proofs.Each.{each_map}
use Rattle.grammar.specs.Grammar.{IsLLine, Meets}
use Rattle.grammar_alike.specs.Alike.{without_l}
use Rattle.grammar_alike.proofs.Letters.{notes_left_out}
use Rattle.grammar_alike.proofs.Alike.{says_alike}
use Rattle.claims_merge.specs.Evening.{ReadAlike}
use Rattle.claims_merge.proofs.Copies.{sealed_lines, remarks_of, texts_is, noted_lines}
use Rattle.claims_merge.proofs.Making.{Made, notes_keep, file_is, built_short, meets_first}

-- ---- the first copy, and the file made

module _ (first second file : List ℕ) (w : Made first second file) where
  abbrev m : Meets seal.Strict first
  m = meets_first first second file w

  abbrev common : List (List ℕ)
  common = sealed_lines first m

  new_notes : Each IsLLine w.notes
  new_notes = each_map w.notes (λ l h. h.0) (notes_keep first second file w)

  texts_file : texts_of (lines_of file) ≡ common ++ w.notes
  texts_file = ap (λ (l : List ℕ). texts_of (lines_of l)) (file_is first second file w) ∙ noted_lines first m w.notes (notes_keep first second file w) (built_short first second file w)

  unnoted : without_l (texts_of (lines_of file)) ≡ without_l (texts_of (lines_of first))
  unnoted =
      ap without_l texts_file ∙ notes_left_out common w.notes new_notes
      ∙ sym (notes_left_out common (remarks_of first m) m.keeps.remarks) ∙ sym (ap without_l (texts_is first m))

  pub alike : (f g : Flight) → verdict seal.Strict first None ≡ says f → verdict seal.Strict file None ≡ says g → ReadAlike f (texts_of (lines_of first)) g (texts_of (lines_of file))
  alike f g p q = record {
    same = says_alike seal.Strict first file None None f g p q unnoted;
    common = common;
    notes = remarks_of first m;
    others = w.notes;
    lines = texts_is first m;
    also = texts_file;
    remarks = m.keeps.remarks;
    remarks_too = new_notes;
    unnoted = unnoted;
  }

-- ---- and whatever is read of a line that both have

front_at : (xs ys : List (List ℕ)) (n : ℕ) → n < length xs → get_or (xs ++ ys) n [] ≡ get_or xs n []
front_at [] ys n h = absurd (omega arith)
front_at (x ∷ xs) ys zero h = refl
front_at (x ∷ xs) ys (suc n) h = front_at xs ys n (omega arith)

pub read_alike : {A : Type 0} (f : Flight) (ls : List (List ℕ)) (g : Flight) (ks : List (List ℕ)) (w : ReadAlike f ls g ks) (reader : Layouts → List ℕ → A) (n : ℕ)
    → n < length w.common → reader g.layouts (get_or ks n []) ≡ reader f.layouts (get_or ls n [])
read_alike f ls g ks w reader n h =
    let k : get_or ks n [] ≡ get_or w.common n [] = ap (λ (l : List (List ℕ)). get_or l n []) w.also ∙ front_at w.common w.others n h in
    let l : get_or ls n [] ≡ get_or w.common n [] = ap (λ (l : List (List ℕ)). get_or l n []) w.lines ∙ front_at w.common w.notes n h in
    ap₂ reader w.same.layouts (k ∙ sym l)
