-- `track_step::swift::up` meets its contract: a number that is not below zero. Assumes nothing.
use native.Mathlib.Omega.{arith}
use mir.Syntax.{w32}
use mir.ValLaws.{to_z_pos}
use Rattle.track_step.proofs.swift.up.Goals as goal

pub returns : goal.returns
returns c = rw (to_z_pos w32 c.args.v (omega arith))
