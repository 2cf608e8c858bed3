-- `track_step::swift::height` meets its contract: five digits have no minus before them. Assumes nothing.
use Rattle.std.specs.Prelude.{Some}
use mathlib.Core.Path.{sym, ap, ◌∙◌}
use native.Mathlib.Omega.{arith}
use Rattle.track_step.proofs.Digits.{small, altitude_is}
use Rattle.track_step.proofs.swift.height.Goals as goal

pub up-requires : goal.up-requires
up-requires c = small _ _ 5 _ (omega arith) c.five.ensures

pub returns : goal.returns
returns c = altitude_is _ _ _ c.five.ensures ∙ ap Some (sym c.up.ensures)
