-- A summary as the code makes it: over the records that steps find, run by run.
use Rattle.std.specs.Prelude.{ℕ, zero, suc, ◌+◌, ◌*◌, ◌-◌, cond, List, [], ◌∷◌, ltb, ℤ}
use Rattle.track_rules.specs.declared.FixStep.{FixStep}
use Rattle.track_rules.specs.declared.Progress.{Progress}
use Rattle.track_rules.specs.declared.Record.{Record}
use Rattle.summary_span.specs.Sums.{no_sum, joined}
use Rattle.summary_span.specs.declared.Sum.{Sum}
use Rattle.summary_slots.specs.Slots.{numbers_of, put_at}
use Rattle.summary_fix.specs.Spots.{alone_of}
use Rattle.track_rules.specs.Stored.{fixes_from}
use Rattle.summary_reckon.specs.Summary.{runs_of}
use Rattle.summary_reckon.specs.declared.Leg.{Leg}

-- these fixes joined one after the other to what is told already
abbrev pub sum_over : Sum → List Record → Sum
sum_over s [] = s
sum_over s (r ∷ rs) = sum_over (joined s (alone_of r)) rs

-- how many of the fixes that are left are in the next run
unfoldable pub next_run : ℕ → ℕ
next_run left = cond (ltb 256 left) 256 left

-- the numbers of run k at their place, but for a run before `keep`
unfoldable pub put_from : ℕ → ℕ → ℕ → Sum → List ℤ → List ℤ
put_from keep k n s list = cond (ltb k keep) list (put_at (12 + 12 * k) (numbers_of n s) list)

module _ (step : Progress → FixStep) where
  -- where n steps come to
  unfoldable pub stepped : Progress → ℕ → Progress
  stepped from zero = from
  stepped from (suc n) = stepped (step from).next n

  -- what is told of the next n fixes
  abbrev pub leg_of : Progress → ℕ → Leg
  leg_of from n = record { sum = sum_over no_sum (fixes_from step from n); next = stepped from n }

  -- one run more: what is told of all to its end, and the list
  unfoldable pub turned_leg : ℕ → Leg → Leg
  turned_leg left whole = record { sum = joined whole.sum (leg_of whole.next (next_run left)).sum; next = (leg_of whole.next (next_run left)).next }

  unfoldable pub turned_list : ℕ → ℕ → ℕ → Leg → List ℤ → List ℤ
  turned_list keep k left whole list = put_from keep k (next_run left) (leg_of whole.next (next_run left)).sum list

  -- m runs more
  unfoldable pub whole_from : ℕ → ℕ → Leg → Sum
  whole_from zero left whole = whole.sum
  whole_from (suc m) left whole = whole_from m (left - 256) (turned_leg left whole)

  unfoldable pub list_from : ℕ → ℕ → ℕ → ℕ → Leg → List ℤ → List ℤ
  list_from keep zero k left whole list = list
  list_from keep (suc m) k left whole list = list_from keep m (k + 1) (left - 256) (turned_leg left whole) (turned_list keep k left whole list)

  -- all runs, and the whole at the front
  unfoldable pub filled : Progress → ℕ → ℕ → List ℤ → List ℤ
  filled start count keep list =
      put_at 0 (numbers_of count (whole_from (runs_of count) count (record { sum = no_sum; next = start })))
      (list_from keep (runs_of count) 0 count (record { sum = no_sum; next = start }) list)
