-- The usual check without a table answers as the usual check with one, where that one is not full. Assumes nothing.
use Rattle.std.specs.Prelude.{None, Some}
use Prim.Native.Nat.{ℕ, ◌+◌}
use mathlib.Core.Bool.{Bool, true, false}
use mathlib.Core.List.{List}
use mathlib.Core.Path.{◌≡◌, refl, sym, ◌∙◌, ap}
use lib.Dec.{leb}
use lib.ListN.{length}
use Rattle.rules.specs.Choice.{need}
use Rattle.rules.specs.Files.{verdict, good_lines}
use Rattle.rules.specs.Refusals.{Said, number, refuses}
use Rattle.rules.specs.declared.Flight.{Flight}
use Rattle.rules.specs.declared.Reason.TheVariants as reason
use Rattle.rules.specs.declared.Seal.TheVariants as seal
use Rattle.rules.proofs.Inverse.{false_true}
use Rattle.rules_laws.proofs.Counted.{tabled, table_adds}
use Rattle.c_answers.specs.Answers.{size, has_room, in_numbers, Answered}
use Rattle.c_answers.specs.declared.Numbers.{Numbers}
use Rattle.c_answers.proofs.Laws.{same_numbers}
use Rattle.c_answers.proofs.Only.{only_answered}
use Rattle.c_figures.specs.Figures.{flight_numbers}
use Rattle.c_files.specs.Calls.{UsuallyChecked, CountAnswered}

module _ (file table answer : List ℕ) (r r' : ℕ) (table_now after after' : List ℕ) (w : UsuallyChecked file table answer r table_now after) (w' : CountAnswered file answer r' after') where
  abbrev bare : Said Flight
  bare = verdict seal.Usual file None

  -- the answer is of another length: nothing is told
  unasked : (m n : Numbers) (t : Bool) → has_room size answer ≡ t → t ≡ false → Answered t answer m r after → Answered t answer n r' after' → (r ≡ r') × (after ≡ after')
  unasked m n true e q a b = absurd (false_true (sym q))
  unasked m n false e q a b = (a.number ∙ sym b.number, a.numbers ∙ sym b.numbers)

  -- the number of a full table is returned, where the answer has its length
  full : (n : Numbers) (t : Bool) → has_room size answer ≡ t → n.number ≡ 15 → (r ≡ 15 → ⊥) → Answered t answer n r after → t ≡ false
  full n true e q d a = absurd (d (a.number ∙ q))
  full n false e q d a = refl

  by_room : (t : Bool) → leb (good_lines bare) (length table) ≡ t → (r ≡ 15 → ⊥) → verdict seal.Usual file (Some (length table)) ≡ need t (refuses (number reason.TableFull) (length table + 1) 0) (λ _. bare)
      → (r ≡ r') × (after ≡ after')
  unfolding number
  by_room true e d v = only_answered answer r r' after after' (same_numbers _ answer _ _ r after (ap (in_numbers flight_numbers) v) w.told) w'
  by_room false e d v =
      let a = same_numbers _ answer _ _ r after (ap (in_numbers flight_numbers) v) w.told in
      unasked _ _ (has_room size answer) refl (full _ (has_room size answer) refl refl d a) a w'

  -- the same number, and the same answer
  pub count_as_check : (r ≡ 15 → ⊥) → (r ≡ r') × (after ≡ after')
  unfolding tabled
  count_as_check d = by_room (leb (good_lines bare) (length table)) refl d (table_adds seal.Usual file (length table))
