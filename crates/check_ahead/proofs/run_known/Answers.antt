-- `check_ahead::run_known` meets its contract. Assumes nothing.
use Rattle.check_ahead.proofs.run_known.Goals as goal

pub run_lines-requires : goal.run_lines-requires
run_lines-requires c =
    let pre = c.requires in (
      pre.0.within,
      pre.0.size,
      pre.0.few,
      pre.0.points,
      pre.0.low,
      pre.0.high,
      record { told = pre.1.fixes; sized = pre.2.sized; columned = pre.2.columned },
      record { told = pre.1.extras; sized = pre.3.sized; columned = pre.3.columned },
      record { told = pre.1.unsigned; sized = pre.4.sized; columned = pre.4.columned },
    )
