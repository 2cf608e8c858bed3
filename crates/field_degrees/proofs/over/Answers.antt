-- `field_degrees::over` meets its contract: `once`, at 60,000 times a power of ten. Assumes nothing.
use Prim.Native.Nat.{ℕ, ◌*◌}
use mathlib.Core.Bool.{false}
use mathlib.Core.Path.{ap, ◌∙◌}
use native.Mathlib.Omega.{arith}
use lib.Ieee.{binary64, round}
use Rattle.rules.specs.Degrees.{quotient}
use Rattle.byte_tens.proofs.Laws.{power_all, power_least, power_most}
use Rattle.field_degrees.proofs.Once.{exact, once}
use Rattle.field_degrees.proofs.over.Goals as goal

pub returns : goal.returns
unfolding quotient
returns c =
    let a = c.args in
    let least = power_least a.decimals in
    let most = power_most a.decimals in
    once binary64 a.count (60000 * c.power-power.result) (omega (arith, c.power-power.ensures)) (omega arith) (omega (arith, c.power-power.ensures))
    ∙ ap (λ (k : ℕ). round binary64 false a.count (60000 * k)) (c.power-power.ensures ∙ power_all a.decimals (omega arith))

pub int_to_float-result : goal.int_to_float-result
int_to_float-result c = exact _ (omega arith)

pub overflow_mul-result : goal.overflow_mul-result
overflow_mul-result c = let most = power_most c.args.decimals in omega (arith, c.power-power.ensures)

pub int_to_float-result-2 : goal.int_to_float-result-2
int_to_float-result-2 c = let most = power_most c.args.decimals in exact _ (omega (arith, c.power-power.ensures))
