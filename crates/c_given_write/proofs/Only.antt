-- For each promise of this crate: two outcomes that meet it are the same, the answer and the output. Assumes nothing.
use Prim.Native.Nat.{ℕ}
use mathlib.Core.List.{List}
use mathlib.Core.Path.{sym, ◌∙◌}
use Rattle.rules.specs.Refusals.{Said}
use Rattle.rules.specs.declared.Extra.{Extra}
use Rattle.rules.specs.declared.Fix.{Fix}
use Rattle.rules_only.proofs.Only.{OnlyBoth}
use Rattle.rules_only.proofs.Told.{result_one}
use Rattle.c_given_write.specs.Written.{SaidWritten, FixWrittenBy, ExtraWrittenBy, LayoutWrittenBy}

only_said_written : (said : Said ℕ) (text : List ℕ) (place : ℕ) (out : List ℕ) → OnlyBoth (SaidWritten said text place out)
only_said_written said text place out r r' after after' w w' = (result_one r r' (w.told ∙ sym w'.told), w.bytes ∙ sym w'.bytes)

pub only_fix_written_by : (f : Fix) (columns l : List ℕ) (place : ℕ) (out : List ℕ) → OnlyBoth (FixWrittenBy f columns l place out)
only_fix_written_by f columns l place out = only_said_written _ _ place out

pub only_extra_written_by : (e : Extra) (t : ℕ) (columns l : List ℕ) (place : ℕ) (out : List ℕ) → OnlyBoth (ExtraWrittenBy e t columns l place out)
only_extra_written_by e t columns l place out = only_said_written _ _ place out

pub only_layout_written_by : (l : List ℕ) (place : ℕ) (out : List ℕ) → OnlyBoth (LayoutWrittenBy l place out)
only_layout_written_by l place out = only_said_written _ _ place out
