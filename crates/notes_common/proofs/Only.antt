-- No second answer meets a promise of `notes_common`. Assumes nothing.
use Prim.Native.Nat.{ℕ}
use mathlib.Core.List.{List}
use Rattle.rules_only.proofs.Only.{Only, same}
use Rattle.notes_common.specs.Common.{CommonCounted, CommonFound, NotesCounted}

pub only_common_counted : (file : List ℕ) → Only (CommonCounted file)
only_common_counted file = same

pub only_common_found : (first second : List ℕ) → Only (CommonFound first second)
only_common_found first second = same

pub only_notes_counted : (file : List ℕ) → Only (NotesCounted file)
only_notes_counted file = same
