-- For each promise of this crate: two answers that meet it are the same. Assumes nothing.
use Prim.Native.Nat.{ℕ}
use mathlib.Core.List.{List}
use Rattle.rules.specs.declared.Family.{Family}
use Rattle.rules_only.proofs.Only.{Only, alike}
use Rattle.rules_only.proofs.Told.{fix_reading_one, extra_reading_one, result_one}
use Rattle.c_given.specs.Given.{LayoutBy, FixBy, ExtraBy, EntryBy, PresenceBy}

pub only_layout_by : (f : Family) (l : List ℕ) → Only (LayoutBy f l)
only_layout_by f l = alike result_one

pub only_fix_by : (line l : List ℕ) → Only (FixBy line l)
only_fix_by line l = alike fix_reading_one

pub only_extra_by : (line l : List ℕ) → Only (ExtraBy line l)
only_extra_by line l = alike extra_reading_one

pub only_entry_by : (l : List ℕ) (n : ℕ) → Only (EntryBy l n)
only_entry_by l n = alike result_one

pub only_presence_by : (l : List ℕ) → Only (PresenceBy l)
only_presence_by l = alike result_one
