-- `columns_asked::comes_again` meets its contract: the codes from i on decide as all do. Assumes nothing.
use mathlib.Core.Path.{◌≡◌}
use Rattle.columns_asked.specs.Asks.{names_from, again}
use Rattle.columns_asked.proofs.Asking.{rest}
use Rattle.columns_asked.proofs.comes_again.Given as goal

abbrev pub invariant-loop-i : goal.invariant-loop-i
invariant-loop-i l = again (rest l.codes l.n l.i) ≡ again (names_from l.n l.codes)
