-- One answer at most meets each promise of this crate. Assumes nothing.
use Prim.Native.Nat.{ℕ}
use Rattle.rules_only.proofs.Only.{Only, same}
use Rattle.summary_span.specs.Sums.{FigureGiven, NothingTold, SumsJoined}
use Rattle.summary_span.specs.declared.Sum.{Sum}

pub only_figure_given : (n : ℕ) → Only (FigureGiven n)
only_figure_given n = same

pub only_nothing_told : Only NothingTold
only_nothing_told = same

pub only_sums_joined : (a b : Sum) → Only (SumsJoined a b)
only_sums_joined a b = same
