-- `columns_asked::is_among` meets its contract: the codes from j on decide as all from i on do. Assumes nothing.
use mathlib.Core.Path.{◌≡◌}
use Rattle.columns_asked.specs.Asks.{among}
use Rattle.columns_asked.proofs.Asking.{rest}
use Rattle.columns_asked.proofs.is_among.Given as goal

abbrev pub invariant-loop-j : goal.invariant-loop-j
invariant-loop-j l = among l.x (rest l.codes l.n l.j) ≡ among l.x (rest l.codes l.n l.i)
