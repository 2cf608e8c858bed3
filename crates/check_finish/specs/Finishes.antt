-- The answer on a file, in the paper's terms.
use Rattle.rules.specs.Choice.{need}
use Rattle.rules.specs.Files.{finish, CheckedTold}
use Rattle.rules.specs.Refusals.{Said, no, refusal}
use Rattle.rules.specs.declared.Checked.{Checked}
use Rattle.rules.specs.declared.Flight.{Flight}
use Rattle.rules.specs.declared.Reason.TheVariants.{BadValue}
use Rattle.rules.specs.declared.Refusal.{Refusal}
use Rattle.rules.specs.declared.Seal.{Seal}
use Rattle.rules.specs.declared.State.{State}
use Rattle.check_counts.specs.Counting.{is_few}

abbrev pub FileRefused : Refusal → Checked → Type 0
FileRefused why r = CheckedTold (refusal why) r

-- 16, or what the lines have left, where they are few; another state is a value that is not allowed
unfoldable pub finish_few : Seal → State → Said Flight
finish_few seal st = need (is_few st.flight.lines) (no BadValue 0) λ _. finish seal st

abbrev pub Finished : Seal → State → Checked → Type 0
Finished seal st r = CheckedTold (finish_few seal st) r
