-- One answer at most meets the promise of this crate. Assumes nothing.
use Prim.Native.Nat.{ℕ}
use mathlib.Core.List.{List}
use Rattle.rules_only.proofs.Only.{Only, same}
use Rattle.layout_column.specs.Parts.{TextOf}

pub only_text_of : (line : List ℕ) (first last : ℕ) → Only (TextOf line first last)
only_text_of line first last = same
