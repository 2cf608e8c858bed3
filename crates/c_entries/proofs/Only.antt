-- Two outcomes that meet the promise of this crate are the same. Assumes nothing.
use Prim.Native.Nat.{ℕ}
use mathlib.Core.List.{List}
use Rattle.rules.specs.declared.Layout.{Layout}
use Rattle.rules_only.proofs.Only.{Only, same}
use Rattle.c_entries.specs.Lent.{EntriesPut}

pub only_entries_put : (es : Layout) (list : List ℕ) → Only (EntriesPut es list)
only_entries_put es list = same
