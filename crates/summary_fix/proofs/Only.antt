-- One answer at most meets the promise of this crate. Assumes nothing.
use Rattle.rules_only.proofs.Only.{Only, same}
use Rattle.track_rules.specs.declared.Record.{Record}
use Rattle.summary_fix.specs.Spots.{FixAlone}

pub only_fix_alone : (r : Record) → Only (FixAlone r)
only_fix_alone r = same
