-- One answer at most meets each promise of this crate. Assumes nothing.
use Rattle.rules.specs.declared.Refusal.{Refusal}
use Rattle.rules.specs.declared.Seal.{Seal}
use Rattle.rules.specs.declared.State.{State}
use Rattle.rules_only.proofs.Only.{Only, checked_only}
use Rattle.check_finish.specs.Finishes.{FileRefused, Finished}

pub only_file_refused : (why : Refusal) → Only (FileRefused why)
only_file_refused why = checked_only

pub only_finished : (seal : Seal) (st : State) → Only (Finished seal st)
only_finished seal st = checked_only
