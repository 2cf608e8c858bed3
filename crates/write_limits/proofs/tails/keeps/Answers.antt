-- `write_limits::tails::keeps` meets its contract. Assumes nothing.
use Prim.Native.Nat.{◌+◌, ◌-◌}
use mathlib.Core.Path.{◌≡◌}
use native.Mathlib.Omega.{arith}
use Rattle.write_limits.proofs.tails.keeps.Goals as goal

pub returns : goal.returns
returns c =
    let a = c.args in
    let h : a.e.first + 1 - a.start - 1 ≡ a.e.first - a.start = omega arith in
    cc
