-- What a merge that was not refused makes of two copies; and that a file so made is a copy again, with the same common part and the notes of both. Assumes nothing.
use Rattle.std.specs.Prelude.{None}
use Prim.Native.Nat.{ℕ, ◌≤◌}
use mathlib.Core.List.{List, ◌++◌}
use mathlib.Core.Path.{◌≡◌, refl, sym, ◌∙◌, ap, ap₂, subst}
use lib.ListN.{length, take, drop}
use lib.Seq.{take-append_seam}
use Rattle.rules.specs.Choice.{Each}
use Rattle.rules.specs.Refusals.{says}
use Rattle.rules.specs.Split.{lines_of}
use Rattle.rules.specs.declared.Seal.TheVariants as seal
use Rattle.notes_sorted.specs.Sorted.{Together}
use Rattle.notes_sorted.proofs.Pairs.{together_turned, together_each}
use Rattle.notes_rules.specs.Notes.{not_after, joined, common_part, notes_in}
use Rattle.notes_rules.specs.Merging.{merged_file}
use Rattle.notes_rules.proofs.Texts.{texts}
use Rattle.notes_merge.specs.Merge.{StrictlyAccepted, FilesMerged}
use Rattle.notes_merge.specs.declared.Brought.TheVariants as brought
use Rattle.notes_merge.proofs.Whole.{whole_said, whole_bytes}
use Rattle.grammar.specs.Grammar.{IsText, IsLLine, Meets, flight_of}
use Rattle.grammar.proofs.Accepted.{accepted_as}
use Rattle.claims_merge.specs.Evening.{Makes}
use Rattle.claims_merge.proofs.Copies.{sealed_lines, common_is, notes_are, meets, noted_common, noted_notes}

-- ---- a merge that was not refused

-- both are accepted and have the same common part, and this file is that part with the notes of both
pub record Made (first second file : List ℕ) : Type 0 where
  pub one : StrictlyAccepted first
  pub two : StrictlyAccepted second
  pub same : common_part (lines_of first) ≡ common_part (lines_of second)
  pub notes : List (List ℕ)
  pub together : Together not_after (notes_in (lines_of first)) (notes_in (lines_of second)) notes
  pub is : file ≡ merged_file first notes
  pub short : length file ≤ 16777216

pub record Told (first second out : List ℕ) (n : ℕ) (after : List ℕ) : Type 0 where
  pub file : List ℕ
  pub made : Made first second file
  pub size : length file ≡ n
  pub fits : length file ≤ length out
  pub bytes : after ≡ file ++ drop (length file) out

pub told : (first second out : List ℕ) (n : ℕ) (after : List ℕ) → FilesMerged first second out (brought.Whole n) after → Told first second out n after
told first second out n after w =
    let b = whole_said first second out n after w in
    record {
      file = merged_file first w.notes;
      made = record { one = b.one; two = b.two; same = b.same; notes = w.notes; together = w.together; is = refl; short = b.short };
      size = b.size;
      fits = b.fits;
      bytes = whole_bytes first second out n after w;
    }

-- two texts at the front of the same bytes, of one length, are the same
front_one : (x y r s : List ℕ) → length x ≡ length y → x ++ r ≡ y ++ s → x ≡ y
front_one x y r s n e = sym (take-append_seam x r) ∙ ap₂ (λ (k : ℕ) (l : List ℕ). take k l) n e ∙ take-append_seam y s

pub makes_made : (first second file : List ℕ) → Makes first second file → Made first second file
makes_made first second file w =
    let t = told first second w.out (length file) w.after w.says in
    let e : t.file ≡ file = front_one t.file file (drop (length t.file) w.out) (drop (length file) w.out) t.size (sym t.bytes ∙ w.left) in
    subst (Made first second) e t.made

pub told_makes : (first second out : List ℕ) (n : ℕ) (after : List ℕ) → FilesMerged first second out (brought.Whole n) after → Makes first second (take n after)
told_makes first second out n after w =
    let t = told first second out n after w in
    let e : take n after ≡ t.file = ap₂ (λ (k : ℕ) (l : List ℕ). take k l) (sym t.size) t.bytes ∙ take-append_seam t.file (drop (length t.file) out) in
    let s : n ≡ length (take n after) = sym t.size ∙ ap length (sym e) in
    record {
      out = out;
      after = after;
      says = subst (λ (k : ℕ). FilesMerged first second out (brought.Whole k) after) s w;
      left = t.bytes ∙ ap (λ (l : List ℕ). l ++ drop (length l) out) (sym e);
    }

-- the other way round it is made too
pub made_turned : (first second file : List ℕ) → Made first second file → Made second first file
made_turned first second file w = record {
  one = w.two;
  two = w.one;
  same = sym w.same;
  notes = w.notes;
  together = together_turned texts (notes_in (lines_of first)) (notes_in (lines_of second)) w.notes w.together;
  is = w.is ∙ ap (λ (l : List ℕ). l ++ joined w.notes) w.same;
  short = w.short;
}

-- ---- the file made is a copy again

pub accepted_meets : (file : List ℕ) → (a : StrictlyAccepted file) → (m : Meets seal.Strict file) × (flight_of m ≡ a.0)
accepted_meets file a = let r = (accepted_as seal.Strict file None a.0).0 a.1 in (r.0, r.2)

module _ (first second file : List ℕ) (w : Made first second file) where
  pub meets_first : Meets seal.Strict first
  meets_first = (accepted_meets first w.one).0

  meets_second : Meets seal.Strict second
  meets_second = (accepted_meets second w.two).0

  pub notes_keep : Each (λ l. IsLLine l × IsText l) w.notes
  notes_keep =
      together_each texts (λ l. IsLLine l × IsText l) (notes_in (lines_of first)) (notes_in (lines_of second)) w.notes w.together
      (notes_are first meets_first) (notes_are second meets_second)

  -- in the grammar's words
  abbrev pub built : List ℕ
  built = joined (sealed_lines first meets_first) ++ joined w.notes

  pub file_is : file ≡ built
  file_is = w.is ∙ ap (λ (l : List ℕ). l ++ joined w.notes) (common_is first meets_first)

  pub built_short : length built ≤ 16777216
  built_short = subst (λ (l : List ℕ). length l ≤ 16777216) file_is w.short

  abbrev built_meets : Meets seal.Strict built
  built_meets = meets first meets_first w.notes notes_keep built_short

  pub common_again : common_part (lines_of file) ≡ common_part (lines_of first)
  common_again = ap (λ (l : List ℕ). common_part (lines_of l)) file_is ∙ noted_common first meets_first w.notes notes_keep built_short

  pub notes_again : notes_in (lines_of file) ≡ w.notes
  notes_again = ap (λ (l : List ℕ). notes_in (lines_of l)) file_is ∙ noted_notes first meets_first w.notes notes_keep built_short

  pub accepted_again : StrictlyAccepted file
  accepted_again = subst StrictlyAccepted (sym file_is) (flight_of built_meets, (accepted_as seal.Strict built None (flight_of built_meets)).1 (built_meets, refl, refl))
