-- `text_calendar::walk` meets its contract: what is left to walk from here leads to the date. Assumes nothing.
use Prim.Native.Nat.{◌+◌, ◌≤◌}
use mathlib.Core.Path.{◌≡◌, refl, sym, ◌∙◌}
use native.Mathlib.Omega.{arith}
use borrow.Author.Rules.{rules}
use Rattle.rules.specs.Fields.{days_of}
use Rattle.rules_trips.proofs.Dates.{days_most}
use Rattle.text_calendar.specs.Calendar.{opening, days_after}
use Rattle.text_calendar.proofs.Laws.{year_long, month_long, year_turn, month_turn, days_left, behind_least, behind_most, behind_early}
use Rattle.text_calendar.proofs.walk.Given as goal

abbrev pub invariant-loop-left : goal.invariant-loop-left
invariant-loop-left l = (l.y + l.left ≤ 16923313) × (days_after l.left (opening l.y l.month) ≡ days_after l.days (opening l.year l.month))

abbrev pub decreases-loop-left : goal.decreases-loop-left
decreases-loop-left l = l.left

abbrev pub invariant-loop-length : goal.invariant-loop-length
invariant-loop-length l =
    (1 ≤ l.at.month) × (l.at.month ≤ 12) × (l.at.year + l.left ≤ 16923313) × (l.length ≡ days_of l.at.year l.at.month) × (days_after l.left (opening l.at.year l.at.month) ≡ days_after l.days (opening l.year l.month))

abbrev pub decreases-loop-length : goal.decreases-loop-length
decreases-loop-length l = l.left
