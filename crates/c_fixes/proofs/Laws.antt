-- A line read, with what stands beside its answer: the altitudes and the entries. Assumes nothing.
use Rattle.std.specs.Prelude.{Result}
use Rattle.rules.specs.declared.Refusal.{Refusal}
use Rattle.rules.specs.Refusals.{Said}
use Prim.Native.Nat.{ℕ}
use mathlib.Core.Bool.{true, false}
use mathlib.Core.List.{List}
use mathlib.Core.Path.{◌≡◌, ◌∙◌, ap}
use lib.IntN.{ℤ}
use lib.ListN.{length}
use borrow.Author.Tests.{eq-eqb, ne_eqb}
use Rattle.rules.specs.Reads.{Reading, answered, fix_reading_told, extra_reading_told}
use Rattle.rules.specs.declared.Fix.{Fix}
use Rattle.rules.specs.declared.ExtraReading.{ExtraReading}
use Rattle.rules.specs.declared.FixReading.{FixReading}
use Rattle.rules.specs.declared.Layout.{Layout}
use Rattle.c_answers.specs.Answers.{size, AnswerGiven, in_numbers, time_numbers}
use Rattle.c_given.specs.Given.{fix_by, extra_by}
use Rattle.c_entries.specs.Lent.{entries_size, entry_numbers, EntriesPut}
use Rattle.c_fixes.specs.Calls.{fix_numbers, heights_of, all_room, FixAnswered, ExtraAnswered}
use Rattle.c_answers.specs.declared.Numbers.{Numbers}
use Rattle.c_answers.proofs.Laws.{given_said, neither_room, one_room, both_room, fitting, not_fitting}

-- the entries in a list that has room for them
entries_put : (es : Layout) (list after : List ℕ) → length list ≡ entries_size → EntriesPut es list after → after ≡ entry_numbers es
entries_put es list after h e = rw (eq-eqb (length list) entries_size h) at e

module _ (line l answer : List ℕ) (heights : List ℤ) (entries : List ℕ) where
  no_room : all_room answer heights entries ≡ false → FixAnswered line l answer heights entries 17 answer heights entries
  no_room h = record { told = not_fitting _ _ _ h; metres = rw h; columns = rw h }

  pub fix_no_answer : (length answer ≡ size → ⊥) → FixAnswered line l answer heights entries 17 answer heights entries
  fix_no_answer h = no_room (rw (ne_eqb (length answer) size h))

  pub fix_no_heights : length answer ≡ size → (length heights ≡ 2 → ⊥) → FixAnswered line l answer heights entries 17 answer heights entries
  fix_no_heights h g = no_room (rw (eq-eqb (length answer) size h, ne_eqb (length heights) 2 g))

  pub fix_no_entries : length answer ≡ size → length heights ≡ 2 → (length entries ≡ entries_size → ⊥) → FixAnswered line l answer heights entries 17 answer heights entries
  fix_no_entries h g k = no_room (rw (eq-eqb (length answer) size h, eq-eqb (length heights) 2 g, ne_eqb (length entries) entries_size k))

  pub fix_answered : (read : Result FixReading Refusal) (n : Numbers) (r : ℕ) (answer_now : List ℕ) (heights_now : List ℤ) (entries_now : List ℕ) → length answer ≡ size → length heights ≡ 2 → length entries ≡ entries_size
      → fix_reading_told read ≡ fix_by line l → (value : Said Fix) → value ≡ (answered (fix_reading_told read)).value → n ≡ in_numbers fix_numbers value → heights_now ≡ heights_of value → (es : Layout) → es ≡ (answered (fix_reading_told read)).entries → EntriesPut es entries entries_now
      → AnswerGiven answer n r answer_now → FixAnswered line l answer heights entries r answer_now heights_now entries_now
  fix_answered read n r answer_now heights_now entries_now h g k e value is v m es are p a =
      let all : all_room answer heights entries ≡ true = rw (eq-eqb (length answer) size h, eq-eqb (length heights) 2 g, eq-eqb (length entries) entries_size k) in
      let said : value ≡ (answered (fix_by line l)).value = is ∙ ap (λ (x : Said (Reading Fix)). (answered x).value) e in
      let columns : es ≡ (answered (fix_by line l)).entries = are ∙ ap (λ (x : Said (Reading Fix)). (answered x).entries) e in
      record {
        told = fitting _ answer _ r answer_now all h (given_said _ answer fix_numbers value _ n r answer_now said v a);
        metres = rw all (m ∙ ap heights_of said);
        columns = rw all (entries_put es entries entries_now k p ∙ ap entry_numbers columns);
      }

module _ (line l answer entries : List ℕ) where
  pub extra_no_answer : (length answer ≡ size → ⊥) → ExtraAnswered line l answer entries 17 answer entries
  extra_no_answer h = record { told = not_fitting _ _ _ (neither_room entries_size answer entries h); columns = rw (neither_room entries_size answer entries h) }

  pub extra_no_entries : length answer ≡ size → (length entries ≡ entries_size → ⊥) → ExtraAnswered line l answer entries 17 answer entries
  extra_no_entries h g = record { told = not_fitting _ _ _ (one_room entries_size answer entries h g); columns = rw (one_room entries_size answer entries h g) }

  pub extra_answered : (read : Result ExtraReading Refusal) (n : Numbers) (r : ℕ) (answer_now entries_now : List ℕ) → length answer ≡ size → length entries ≡ entries_size
      → extra_reading_told read ≡ extra_by line l → (value : Said ℕ) → value ≡ (answered (extra_reading_told read)).value → n ≡ in_numbers time_numbers value → (es : Layout) → es ≡ (answered (extra_reading_told read)).entries → EntriesPut es entries entries_now
      → AnswerGiven answer n r answer_now → ExtraAnswered line l answer entries r answer_now entries_now
  extra_answered read n r answer_now entries_now h g e value is v es are p a =
      let all = both_room entries_size answer entries h g in
      let said : value ≡ (answered (extra_by line l)).value = is ∙ ap (λ (x : Said (Reading ℕ)). (answered x).value) e in
      let columns : es ≡ (answered (extra_by line l)).entries = are ∙ ap (λ (x : Said (Reading ℕ)). (answered x).entries) e in
      record {
        told = fitting _ answer _ r answer_now all h (given_said _ answer time_numbers value _ n r answer_now said v a);
        columns = rw all (entries_put es entries entries_now g p ∙ ap entry_numbers columns);
      }
