-- The values of an answer on a fix, what stands beside them, and the promises of the calls: equations on the number returned and on all that is lent for writing.
use Rattle.std.specs.Prelude.{ℕ, Bool, ◌&&◌, cond, List, [], ◌∷◌, ◌≡◌, ℤ, pos}
use Rattle.rules.specs.Refusals.{Said, says, refuses}
use Rattle.rules.specs.declared.Fix.{Fix}
use Rattle.c_answers.specs.Answers.{size, in_numbers, time_numbers, has_room, Answered}
use Rattle.rules.specs.Reads.{answered}
use Rattle.c_given.specs.Given.{fix_by, extra_by}
use Rattle.c_entries.specs.Lent.{entries_size, entry_numbers}

-- a fix, each count with its extra decimals, its letters as bytes; the altitudes stand beside the answer
abbrev pub fix_numbers : Fix → List ℕ
fix_numbers f =
    f.time.count ∷ f.time.decimals ∷ f.lat.count ∷ f.lat.letter ∷ f.lat.decimals ∷ f.lon.count ∷ f.lon.letter ∷ f.lon.decimals ∷ f.validity ∷ []

-- the two altitudes of a fix, pressure and GNSS; 0 where refused
abbrev pub heights_of : Said Fix → List ℤ
heights_of (says f) = f.pressure.metres ∷ f.gnss.metres ∷ []
heights_of (refuses n l b) = pos 0 ∷ pos 0 ∷ []

-- all that is lent has its length: the answer, the altitudes, the entries
abbrev pub all_room : List ℕ → List ℤ → List ℕ → Bool
all_room answer heights entries = has_room size answer && has_room 2 heights && has_room entries_size entries

-- a B line read: the answer, the altitudes beside it, and the entries of its columns
pub record FixAnswered (line l answer : List ℕ) (heights : List ℤ) (entries : List ℕ) (r : ℕ) (answer_now : List ℕ) (heights_now : List ℤ) (entries_now : List ℕ) : Type 0 where
  pub told : Answered (all_room answer heights entries) answer (in_numbers fix_numbers (answered (fix_by line l)).value) r answer_now
  pub metres : heights_now ≡ cond (all_room answer heights entries) (heights_of (answered (fix_by line l)).value) heights
  pub columns : entries_now ≡ cond (all_room answer heights entries) (entry_numbers (answered (fix_by line l)).entries) entries

-- a K or an N line read: the answer, and the entries of its columns
pub record ExtraAnswered (line l answer entries : List ℕ) (r : ℕ) (answer_now entries_now : List ℕ) : Type 0 where
  pub told : Answered (has_room size answer && has_room entries_size entries) answer (in_numbers time_numbers (answered (extra_by line l)).value) r answer_now
  pub columns : entries_now ≡ cond (has_room size answer && has_room entries_size entries) (entry_numbers (answered (extra_by line l)).entries) entries
