-- A summary beside each flight, what is claimed. Each claim is a line from the room that proves it; its words stand in specs/Overview. Assumes nothing.
--
-- The claims are about every answer that the contract of `summary::summary` allows (promise FileSummed), and by `only_file_summed` that is one. It is told by `summary_said`: the file's own
-- refusal, then 17, then 18, or the number of runs; the list afterwards is `summary_after`. The file's refusals and its lines are the grammar's (grammar: `refused_first`,
-- `accepted_as`), and its fixes are the records of its track (claims_track: `track_records`).
use Rattle.rules.specs.declared.Refusal.{Refusal}
use Rattle.std.specs.Prelude.{None, Result}
use Prim.Native.Nat.{ℕ, ◌≤◌}
use mathlib.Core.List.{List}
use mathlib.Core.Logic.{◌⊎◌, ◌↔◌}
use mathlib.Core.Path.{◌≡◌}
use lib.IntN.{ℤ}
use lib.ListN.{length}
use Rattle.rules.specs.Refusals.{says, refuses, result_told}
use Rattle.grammar.specs.Faults.{Refused}
use Rattle.grammar.specs.Grammar.{Meets, lines_in}
use Rattle.track_rules.specs.Track.{track_seal}
use Rattle.track_rules.specs.declared.Record.{Record}
use Rattle.claims_track.specs.Mapped.{BLines}
use Rattle.summary.specs.Summaries.{FileSummed}
use Rattle.summary_reckon.specs.Summary.{told, runs_of, size_of}
use Rattle.claims_summary.specs.Overview.{Exceeds, Short, Tells, Summarises, Grown, Kept}
use Rattle.claims_summary.proofs.Answers as answers
use Rattle.claims_summary.proofs.Fresh as fresh
use Rattle.claims_summary.proofs.Numbers as numbers

-- the twelve numbers of some fixes are what the document says of each, and no other twelve are
pub twelve_tell : (rs : List Record) → Tells rs (told rs)
twelve_tell = numbers.tells_told

pub only_twelve : (rs : List Record) (ns ns' : List ℤ) → Tells rs ns → Tells rs ns' → ns ≡ ns'
only_twelve = numbers.only_told

module _ (file : List ℕ) (old : ℕ) (list : List ℤ) (r : Result ℕ Refusal) (after : List ℤ) (w : FileSummed file old list r after) where
  -- the answer is the number of runs: given exactly where the file meets the grammar and has `old` B lines or more, and the list has room
  pub summary_runs : (n : ℕ) → (result_told r ≡ says n) ↔ ((m : Meets track_seal file) × (n ≡ runs_of (BLines m)) × (old ≤ BLines m) × (size_of n ≤ length list))
  summary_runs = answers.told_runs_lem file old list r after w

  -- "Refusals: the file's own, 17 if the old number exceeds the new, then 18 if the list is short; the list is then unchanged."
  pub summary_refused_first : (n l b : ℕ) → (result_told r ≡ refuses n l b) ↔ (Refused track_seal file None n l b ⊎ (Exceeds file old n l b ⊎ Short file old (length list) n l b))
  summary_refused_first = answers.told_refuses file old list r after w

  pub summary_leaves : (n l b : ℕ) → result_told r ≡ refuses n l b → after ≡ list
  summary_leaves = answers.refused_leaves file old list r after w

  -- "No table is lent here or in CR 6, 10 and 12, so 15 isn't met there."
  pub summary_never_full : (n l b : ℕ) → result_told r ≡ refuses n l b → n ≡ 15 → ⊥
  summary_never_full = answers.told_never_full file old list r after w

  -- the list afterwards: each number of the whole and of the runs that are worked out, by its meaning over the fixes of the file; earlier runs and the numbers past the last run stay
  pub summary_tells : (n : ℕ) → result_told r ≡ says n → (m : Meets track_seal file) → Summarises m old n list after
  summary_tells = answers.summarised file old list r after w

-- "If those are of an older file with that many fixes, and only B lines have since been put, after its last timed line, the result equals one made afresh.": both the answer and the list
pub updated_is_fresh : (older newer : List ℕ) (m : Meets track_seal older) (k : Meets track_seal newer) → Grown (lines_in m.parts) (lines_in k.parts)
    → (list : List ℤ) → Kept older (BLines m) list
    → (r : Result ℕ Refusal) (after : List ℤ) → FileSummed newer (BLines m) list r after
    → (r' : Result ℕ Refusal) (after' : List ℤ) → FileSummed newer 0 list r' after' → (r ≡ r') × (after ≡ after')
updated_is_fresh = fresh.updated_is_fresh
