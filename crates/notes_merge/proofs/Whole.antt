-- A merge that was not refused: both files are accepted, they have the same common part, and the merged file keeps to the limit and has room. Assumes nothing.
use Rattle.std.specs.Prelude.{None}
use Prim.Native.Nat.{ℕ, ◌≤◌}
use mathlib.Core.List.{List, ◌++◌}
use mathlib.Core.Path.{◌≡◌, refl, sym, ◌∙◌, ap}
use native.Mathlib.Omega.{arith}
use borrow.Author.Tests.{leb-true}
use lib.Dec.{leb}
use lib.ListN.{length, take, drop, length-append}
use lib.Seq.{length-take-le}
use Rattle.rules.specs.Refusals.{number, Said, says, refuses}
use Rattle.rules.specs.Split.{lines_of}
use Rattle.rules.specs.Files.{verdict}
use Rattle.rules.specs.declared.Flight.{Flight}
use Rattle.rules.specs.declared.Reason.TheVariants.{TooLong, NoRoom, NotSame}
use Rattle.rules.specs.declared.Seal.TheVariants as seal
use Rattle.rules.proofs.Inverse.{need_inv}
use Rattle.notes_rules.specs.Notes.{common_part, is_same}
use Rattle.notes_rules.specs.Merging.{Merged, merged, of_neither, accept_first, accept_second, merged_file, merge_said, out_merged}
use Rattle.notes_common.proofs.Common.{same_is}
use Rattle.notes_merge.specs.Merge.{StrictlyAccepted, merge_told, FilesMerged}
use Rattle.notes_merge.specs.declared.Brought.{Brought}
use Rattle.notes_merge.specs.declared.Brought.TheVariants as brought

-- ---- what each step says

first_merged : (s : Said Flight) (more : Flight → Merged) (n : ℕ) → accept_first s more ≡ merged n → (f : Flight) × (s ≡ says f) × (more f ≡ merged n)
first_merged (says f) more n e = (f, refl, e)
first_merged (refuses k l b) more n e = let z : ◌≡◌ {A = ℕ} 0 1 = cc in absurd (omega arith)

second_merged : (s : Said Flight) (more : Flight → Merged) (n : ℕ) → accept_second s more ≡ merged n → (f : Flight) × (s ≡ says f) × (more f ≡ merged n)
second_merged (says f) more n e = (f, refl, e)
second_merged (refuses k l b) more n e = let z : ◌≡◌ {A = ℕ} 0 1 = cc in absurd (omega arith)

neither_merged : (k l b n : ℕ) → of_neither k l b ≡ merged n → ⊥
neither_merged k l b n e = let z : ◌≡◌ {A = ℕ} 0 1 = cc in omega arith

pub record NotRefused (first second file : List ℕ) (room n : ℕ) : Type 0 where
  pub one : StrictlyAccepted first
  pub two : StrictlyAccepted second
  pub same : common_part (lines_of first) ≡ common_part (lines_of second)
  pub short : length file ≤ 16777216
  pub fits : length file ≤ room
  pub size : length file ≡ n

pub not_refused : (first second file : List ℕ) (room n : ℕ) → merge_said first second file room ≡ merged n → NotRefused first second file room n
unfolding merge_said
not_refused first second file room n e =
    let a = first_merged (verdict seal.Strict first None) _ n e in
    let b = second_merged (verdict seal.Strict second None) _ n a.2 in
    let s = need_inv (is_same (common_part (lines_of first)) (common_part (lines_of second))) _ (merged n) _ (neither_merged (number NotSame) 0 0 n) b.2 in
    let l = need_inv (leb (length file) 16777216) _ (merged n) _ (neither_merged (number TooLong) 0 0 n) s.1 in
    let r = need_inv (leb (length file) room) _ (merged n) _ (neither_merged (number NoRoom) 0 0 n) l.1 in
    let h : merged (length file) ≡ merged n = r.1 in
    record {
      one = (a.0, a.1);
      two = (b.0, b.1);
      same = same_is (common_part (lines_of first)) (common_part (lines_of second)) s.0;
      short = leb-true (length file) 16777216 l.0;
      fits = leb-true (length file) room r.0;
      size = cc;
    }

-- ---- the output afterwards

module _ (first second out : List ℕ) (n : ℕ) (after : List ℕ) (w : FilesMerged first second out (brought.Whole n) after) where
  pub whole_said : NotRefused first second (merged_file first w.notes) (length out) n
  unfolding merge_told
  whole_said = not_refused first second (merged_file first w.notes) (length out) n (sym w.told)

  pub whole_bytes : after ≡ merged_file first w.notes ++ drop (length (merged_file first w.notes)) out
  unfolding merge_told
  whole_bytes = w.bytes ∙ ap (λ (m : Merged). out_merged m (merged_file first w.notes) out) (sym w.told)

-- `&out[..n]` is there, and has n bytes
pub whole_fits : (first second out : List ℕ) (r : Brought) (n : ℕ) (after : List ℕ) → FilesMerged first second out r after → r ≡ brought.Whole n → n ≤ length after
whole_fits first second out r n after v e =
    let w : FilesMerged first second out (brought.Whole n) after = rw e at v in
    let file = merged_file first w.notes in
    omega (arith, (whole_said first second out n after w).size, ap length (whole_bytes first second out n after w), length-append file (drop (length file) out))

pub whole_counts : (first second out : List ℕ) (r : Brought) (n : ℕ) (after : List ℕ) → FilesMerged first second out r after → r ≡ brought.Whole n → n ≡ length (take n after)
whole_counts first second out r n after v e = sym (length-take-le n after (whole_fits first second out r n after v e))
