-- One answer at most meets each promise of this crate. Assumes nothing.
use Rattle.rules.specs.declared.Refusal.{Refusal}
use Rattle.rules.specs.declared.Layout.{Layout}
use Rattle.rules.specs.declared.Family.{Family}
use Rattle.rules_only.proofs.Only.{Only, same, alike}
use Rattle.rules_only.proofs.Told.{result_one}
use Rattle.layout.specs.Parts.{LayoutRefused, LineLength}

pub only_layout_refused : (why : Refusal) → Only (LayoutRefused why)
only_layout_refused why = alike result_one

pub only_line_length : (f : Family) (l : Layout) → Only (LineLength f l)
only_line_length f l = same
