-- One answer at most meets each promise of this crate. Assumes nothing.
use Rattle.rules.specs.declared.Counts.{Counts}
use Rattle.rules.specs.declared.Family.{Family}
use Rattle.rules_only.proofs.Only.{Only, same}
use Rattle.check_counts.specs.Counting.{FewCounts, OneCounted}

pub only_few_counts : (ns : Counts) → Only (FewCounts ns)
only_few_counts ns = same

pub only_one_counted : (f : Family) (ns : Counts) → Only (OneCounted f ns)
only_one_counted f ns = same
