-- No second answer meets the promise of `put_notes`, and the output is afterwards one thing. Assumes nothing.
use Prim.Native.Nat.{ℕ}
use mathlib.Core.List.{List}
use mathlib.Core.Path.{sym, ◌∙◌}
use Rattle.rules_only.proofs.Only.{OnlyBoth}
use Rattle.notes_weave.specs.Loom.{NotesPut}

pub only_notes_put : (a b : List ℕ) (from : ℕ) (out : List ℕ) → OnlyBoth (NotesPut a b from out)
only_notes_put a b from out r r' after after' w w' = (w.told ∙ sym w'.told, w.bytes ∙ sym w'.bytes)
