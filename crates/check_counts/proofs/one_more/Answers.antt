-- `check_counts::one_more` meets its contract: few counts have room for one more. Assumes nothing.
use native.Mathlib.Omega.{arith}
use mathlib.Core.Path.{sym}
use Rattle.rules.specs.declared.Extra.TheVariants as extra
use Rattle.rules.specs.declared.Family.TheVariants as family
use Rattle.check_counts.proofs.Counting.{are_few_lem}
use Rattle.check_counts.proofs.one_more.Goals as goal

pub overflow_add-result : goal.overflow_add-result
overflow_add-result c = omega (arith, are_few_lem c.args.counts (sym c.if-not-are_few.ensures) family.B)

pub overflow_add-result-in-Extra-K : goal.overflow_add-result-in-Extra-K
overflow_add-result-in-Extra-K c = omega (arith, are_few_lem c.args.counts (sym c.if-not-are_few.ensures) (family.Extra extra.K))

pub overflow_add-result-in-Extra-N : goal.overflow_add-result-in-Extra-N
overflow_add-result-in-Extra-N c = omega (arith, are_few_lem c.args.counts (sym c.if-not-are_few.ensures) (family.Extra extra.N))
