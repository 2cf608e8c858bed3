-- One answer at most meets each promise of this crate. Assumes nothing.
use Prim.Native.Nat.{ℕ}
use mathlib.Core.List.{List}
use Rattle.rules.specs.declared.Entry.{Entry}
use Rattle.rules.specs.declared.Layout.{Layout}
use Rattle.rules_only.proofs.Told.{result_one}
use Rattle.rules_only.proofs.Only.{Only, alike}
use Rattle.layout_entry.specs.Parts.{EntryPlaced, EntryGiven}

pub only_entry_placed : (start : ℕ) (before : Layout) (e : Entry) (first : ℕ) → Only (EntryPlaced start before e first)
only_entry_placed start before e first = alike result_one

pub only_entry_given : (l : List ℕ) (i start : ℕ) (before : Layout) → Only (EntryGiven l i start before)
only_entry_given l i start before = alike result_one
