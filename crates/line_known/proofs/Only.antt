-- For each promise of this crate: two answers that meet it are the same. Assumes nothing.
use Prim.Native.Nat.{ℕ}
use mathlib.Core.List.{List}
use Rattle.rules.specs.declared.Extra.{Extra}
use Rattle.rules.specs.declared.Layout.{Layout}
use Rattle.rules_only.proofs.Only.{Only, alike}
use Rattle.rules_only.proofs.Told.{result_one, fix_reading_one, extra_reading_one}
use Rattle.line_known.specs.Known.{OfKind, FixKnown, ExtraKnown}

pub only_of_kind : (letter : ℕ) (l : List ℕ) → Only (OfKind letter l)
only_of_kind letter l = alike result_one

pub only_fix_known : (l : List ℕ) (layout : Layout) → Only (FixKnown l layout)
only_fix_known l layout = alike fix_reading_one

pub only_extra_known : (e : Extra) (l : List ℕ) (layout : Layout) → Only (ExtraKnown e l layout)
only_extra_known e l layout = alike extra_reading_one
