-- Bring evening notes together, what is claimed. Each claim is a line from the room that proves it; its words stand in specs/Evening, in notes_rules (Notes, Merging)
-- and in notes_sorted (Sorted). Assumes nothing.
--
-- The claims are about every answer that the contract of `notes_merge::merge` allows (promise FilesMerged), and by `only_files_merged` that is one. It is told by `merge_said`: the first file's
-- refusal, the second's, 26, 2, 18, in this order, or how many bytes the merged file has.
use Rattle.std.specs.Prelude.{None}
use Prim.Native.Nat.{ℕ, ◌≤◌, ◌<◌, max}
use mathlib.Core.Bool.{true, false}
use mathlib.Core.List.{List, [], ◌∷◌, ◌++◌}
use mathlib.Core.Logic.{◌↔◌}
use mathlib.Core.Path.{◌≡◌, sym, ◌∙◌, ap, subst}
use native.Mathlib.Omega.{arith}
use lib.ListN.{length, get_or, take, drop}
use Rattle.rules.specs.Refusals.{number, says}
use Rattle.rules.specs.Choice.{Each}
use Rattle.rules.specs.Split.{lines_of}
use Rattle.rules.specs.Files.{verdict}
use Rattle.rules.specs.declared.Flight.{Flight}
use Rattle.rules.specs.declared.Layouts.{Layouts}
use Rattle.rules.specs.declared.Reason.TheVariants.{NoRoom, NotSame}
use Rattle.rules.specs.declared.Seal.TheVariants as seal
use Rattle.rules_laws.proofs.Splitting.{texts_of}
use Rattle.notes_sorted.specs.Sorted.{hit, count, Sorted}
use Rattle.notes_sorted.proofs.Sorting.{hit_exactly}
use Rattle.notes_rules.specs.Notes.{not_after, joined, common_part, notes_in}
use Rattle.notes_rules.specs.Merging.{Merged, of_first, of_second, of_neither}
use Rattle.notes_rules.proofs.Texts.{texts}
use Rattle.notes_rules.proofs.Texts as order
use Rattle.notes_merge.specs.Merge.{StrictlyAccepted, merge_told, FilesMerged}
use Rattle.notes_merge.specs.declared.Brought.{Brought}
use Rattle.notes_merge.specs.declared.Brought.TheVariants as brought
use Rattle.grammar.specs.Grammar.{IsText, IsLLine, join_lines, Meets}
use Rattle.claims_merge.specs.Evening.{Makes, ReadAlike, sealed_part, Merges, MergeRefused, number_in}
use Rattle.claims_merge.proofs.Making as making
use Rattle.claims_merge.proofs.Turned as turned
use Rattle.claims_merge.proofs.Alike as alike
use Rattle.claims_merge.proofs.Copies as copies
use Rattle.claims_merge.proofs.NotSame as not_same
use Rattle.claims_merge.proofs.NeverFull as full
use Rattle.claims_merge.proofs.Answers as answers
use Rattle.claims_merge.proofs.Worked.{Gives, day, night, both, lent}
use Rattle.claims_merge.proofs.Worked as worked

-- ---- what the words mean, apart from how

-- a note is counted where it stands, and nowhere else
pub counted_exactly : (z x : List ℕ) → (hit not_after z x ≡ 1) ↔ (z ≡ x)
counted_exactly = hit_exactly texts

-- "ascending byte order": the first byte that differs decides; "a line that begins another coming first"
pub byte_decides : (x y z : List ℕ) (a b : ℕ) → a < b → (not_after (x ++ a ∷ y) (x ++ b ∷ z) ≡ true) × (not_after (x ++ b ∷ z) (x ++ a ∷ y) ≡ false)
byte_decides = order.byte_decides

pub beginning_first : (x y : List ℕ) (b : ℕ) → (not_after x (x ++ b ∷ y) ≡ true) × (not_after (x ++ b ∷ y) x ≡ false)
beginning_first = order.beginning_first

-- a file that meets the grammar of the strict check is cut in two behind its last G line: the common part is its lines up to and with that one, each with its CR LF, and the notes are the L lines behind it
pub parted : (file : List ℕ) (m : Meets seal.Strict file)
    → (common_part (lines_of file) ≡ join_lines (sealed_part m.parts)) × (notes_in (lines_of file) ≡ m.parts.remarks) × Each (λ l. IsLLine l × IsText l) (notes_in (lines_of file))
parted file m = (copies.sealed_is file m, copies.notes_is file m, copies.notes_are file m)

-- ---- the answer: one of these, and no other

module _ (first second out : List ℕ) (r : Brought) (after : List ℕ) (w : FilesMerged first second out r after) where
  -- "make one": the answer is how many bytes a file has exactly where the two copies make that file, within the limit and the room of the output; and then the output is the file, and
  -- "bytes past a result stay"
  pub merged_exactly : ((n : ℕ) → (r ≡ brought.Whole n) ↔ ((file : List ℕ) × Merges first second (length out) file × (length file ≡ n)))
      × ((file : List ℕ) → Merges first second (length out) file → after ≡ file ++ drop (length file) out)
  merged_exactly = answers.merged_exactly first second out r after w

  -- a refusal, and whose it is: of the first file, of the second, 26, 2 and 18, each exactly where none before it applies; and then the output is as it was
  pub merge_refused_first : (n l b : ℕ)
      → ((merge_told r ≡ of_first n l b) ↔ MergeRefused first second (length out) (of_first n l b))
      × ((merge_told r ≡ of_second n l b) ↔ MergeRefused first second (length out) (of_second n l b))
      × ((merge_told r ≡ of_neither n l b) ↔ MergeRefused first second (length out) (of_neither n l b))
  merge_refused_first = answers.merge_refused_first first second out r after w

  pub merge_refused_leaves : (m : Merged) → MergeRefused first second (length out) m → after ≡ out
  merge_refused_leaves = answers.refused_leaves first second out r after w

-- two copies with notes, worked out by hand: the file that they make, in an output with three bytes to spare
pub copies_worked : Gives day night (lent 119) (brought.Whole 116) (both ++ (42 ∷ 42 ∷ 42 ∷ []))
copies_worked = (worked.merged_both).1

-- a merge that is not refused makes a file: the output's first bytes, as many as it says
pub merged_makes : (first second out : List ℕ) (n : ℕ) (after : List ℕ) → FilesMerged first second out (brought.Whole n) after → Makes first second (take n after)
merged_makes = making.told_makes

-- "a refusal leaves the output unchanged"
pub refused_leaves : (first second out : List ℕ) (r : Brought) (after : List ℕ) → FilesMerged first second out r after → ((n : ℕ) → r ≡ brought.Whole n → ⊥) → after ≡ out
refused_leaves = turned.refused_leaves

-- ---- "The order of the two copies changes no byte, nor does the pairing of three where no step is refused, and no note is lost."

-- the output is the same either way; and where both files pass the strict check, so is the answer
pub merged_either_way : (first second out : List ℕ) (r r' : Brought) (after after' : List ℕ) → FilesMerged first second out r after → FilesMerged second first out r' after'
    → (after ≡ after') × (StrictlyAccepted first → StrictlyAccepted second → r ≡ r')
merged_either_way = turned.either_way

pub merged_in_any_pairing : (a b c ab bc abc abc' : List ℕ) → Makes a b ab → Makes ab c abc → Makes b c bc → Makes a bc abc' → abc ≡ abc'
merged_in_any_pairing a b c ab bc abc abc' p q u v =
    turned.pairing a b c ab bc abc abc' (making.makes_made a b ab p) (making.makes_made ab c abc q) (making.makes_made b c bc u) (making.makes_made a bc abc' v)

module _ (first second file : List ℕ) (w : Makes first second file) where
  made : making.Made first second file
  made = making.makes_made first second file w

  -- each note stands as often as in the copy that has it more often; and nothing else stands behind the common part
  pub merged_keeps : ((z : List ℕ) → count not_after z (notes_in (lines_of file)) ≡ max (count not_after z (notes_in (lines_of first))) (count not_after z (notes_in (lines_of second))))
      × (file ≡ common_part (lines_of first) ++ joined (notes_in (lines_of file)))
  merged_keeps =
      let n = making.notes_again first second file made in
      ((λ z. ap (count not_after z) n ∙ made.together.kept z), made.is ∙ ap (λ (ns : List (List ℕ)). common_part (lines_of first) ++ joined ns) (sym n))

  -- "in ascending byte order"
  pub merged_in_order : Sorted not_after (notes_in (lines_of file))
  merged_in_order = subst (Sorted not_after) (sym (making.notes_again first second file made)) made.together.sorted

  -- ---- "Demands 2 and 3 read as before."

  -- the merged file passes the strict check
  pub merged_accepted : StrictlyAccepted file
  merged_accepted = making.accepted_again first second file made

  -- and reads as each copy does, but for the notes; every reading by its name, the track and the summary too: `merged_changes_nothing` (claims_notes)
  pub merged_reads : (f g : Flight) → verdict seal.Strict first None ≡ says f → verdict seal.Strict file None ≡ says g → ReadAlike f (texts_of (lines_of first)) g (texts_of (lines_of file))
  merged_reads = alike.alike first second file made

  pub merged_reads_second : (f g : Flight) → verdict seal.Strict second None ≡ says f → verdict seal.Strict file None ≡ says g → ReadAlike f (texts_of (lines_of second)) g (texts_of (lines_of file))
  merged_reads_second = alike.alike second first file (making.made_turned first second file made)

-- whatever is read, with the layouts, of a line that is no note at the end is the same: a fix and its columns, a K line, an event, a line of the declaration
pub read_alike : {A : Type 0} (f : Flight) (ls : List (List ℕ)) (g : Flight) (ks : List (List ℕ)) (w : ReadAlike f ls g ks) (reader : Layouts → List ℕ → A) (n : ℕ)
    → n < length w.common → reader g.layouts (get_or ks n []) ≡ reader f.layouts (get_or ls n [])
read_alike = alike.read_alike

-- ---- a file merged with itself is refused by none but 18, and keeps its notes, in order

-- each note stands as often as before, they are in order, and the common part is the same
pub itself_keeps : (file copy : List ℕ) → Makes file file copy
    → ((z : List ℕ) → count not_after z (notes_in (lines_of copy)) ≡ count not_after z (notes_in (lines_of file)))
    × Sorted not_after (notes_in (lines_of copy))
    × (common_part (lines_of copy) ≡ common_part (lines_of file))
itself_keeps file copy w = (
  (λ z. omega (arith, (merged_keeps file file copy w).0 z)),
  merged_in_order file file copy w,
  making.common_again file file copy (making.makes_made file file copy w),
)

module _ (file out : List ℕ) (r : Brought) (after : List ℕ) (a : StrictlyAccepted file) (w : FilesMerged file file out r after) where
  pub merged_with_itself : length file ≤ length out
      → (r ≡ brought.Whole (length file)) × (copy : List ℕ) × Makes file file copy × (length copy ≡ length file) × (after ≡ copy ++ drop (length file) out)
  merged_with_itself = turned.own_makes file a out r after w

  pub itself_no_room : length out < length file → (merge_told r ≡ of_neither (number NoRoom) 0 0) × (after ≡ out)
  itself_no_room = turned.own_short file a out r after w

-- ---- 26 exactly where both files pass the strict check and the common parts differ

pub not_same_exactly : (first second out : List ℕ) (r : Brought) (after : List ℕ) → FilesMerged first second out r after
    → (merge_told r ≡ of_neither (number NotSame) 0 0) ↔ (StrictlyAccepted first × StrictlyAccepted second × (common_part (lines_of first) ≡ common_part (lines_of second) → ⊥))
not_same_exactly = not_same.not_same_exactly

-- ---- "No table is lent here .., so 15 isn't met there."

pub never_full : (first second out : List ℕ) (r : Brought) (after : List ℕ) → FilesMerged first second out r after → number_in (merge_told r) ≡ 15 → ⊥
never_full = full.never_full
