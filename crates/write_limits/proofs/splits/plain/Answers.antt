-- `write_limits::splits::plain` meets its contract: a decimal less at each turn. Assumes nothing.
use mathlib.Core.Path.{◌≡◌}
use native.Mathlib.Omega.{arith}
use Rattle.rules.specs.Fixes.{plain}
use Rattle.write_limits.proofs.Laws.{tenth, none_taken}
use Rattle.write_limits.proofs.splits.plain.Goals as goal

pub loop-done-init : goal.loop-done-init
loop-done-init c = none_taken _

pub loop-done-preserved : goal.loop-done-preserved
loop-done-preserved c = tenth _ _ _ c.loop-done.invariant

pub returns : goal.returns
unfolding plain
returns c = let z : c.loop-done._done ≡ c.args.decimals = omega arith in rw z at c.loop-done.invariant
