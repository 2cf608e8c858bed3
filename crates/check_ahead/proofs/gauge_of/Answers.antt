-- `check_ahead::gauge_of` meets its contract. Assumes nothing.
use native.Mathlib.Omega.{arith}
use Rattle.layout_coded.proofs.Turns.{unmapped}
use Rattle.check_ahead.proofs.Runs.{count_most, pattern_put, pattern_fits}
use Rattle.check_ahead.proofs.gauge_of.Goals as goal

pub returns : goal.returns
returns c =
    let most = count_most _ _ c.requires in
    record {
      sized = c.line_length-size.ensures;
      ended = pattern_fits _ _ most c.pattern-pattern.ensures;
      columned = pattern_put _ _ (search unmapped) most c.pattern-pattern.ensures;
    }

pub overflow_mul-end : goal.overflow_mul-end
overflow_mul-end c = omega (arith, count_most _ _ c.requires)
