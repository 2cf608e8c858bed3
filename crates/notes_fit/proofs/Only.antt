-- No second answer meets the promise of `weave`, and the output is afterwards one thing. Assumes nothing.
use Prim.Native.Nat.{ℕ}
use mathlib.Core.List.{List}
use mathlib.Core.Path.{sym, ◌∙◌}
use Rattle.rules_only.proofs.Only.{OnlyBoth}
use Rattle.notes_fit.specs.Weave.{NotesWoven}

pub only_notes_woven : (front : ℕ) (a b out : List ℕ) → OnlyBoth (NotesWoven front a b out)
only_notes_woven front a b out r r' after after' w w' = (w.told ∙ sym w'.told, w.bytes ∙ sym w'.bytes)
