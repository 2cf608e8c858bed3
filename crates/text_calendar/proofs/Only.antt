-- One answer at most meets the promise of this crate. Assumes nothing.
use Prim.Native.Nat.{ℕ}
use mathlib.Core.Path.{◌≡◌, sym, ap, ◌∙◌}
use Rattle.rules.specs.declared.Date.{Date}
use Rattle.rules_only.proofs.Only.{Only}
use Rattle.text_calendar.specs.Calendar.{civil_told, DateAfter}
use Rattle.text_calendar.specs.declared.Civil.{Civil}

pub only_date_after : (d : Date) (n : ℕ) → Only (DateAfter d n)
only_date_after d n r r' e e' =
    let same : civil_told r ≡ civil_told r' = e ∙ sym e' in
    ap (λ (t : Date). record { year = t.year; month = t.month; day = t.day }) same
