-- One line judged after those before it, in the paper's terms.
use Rattle.rules.specs.declared.Refusal.{Refusal}
use Rattle.std.specs.Prelude.{ℕ, List, Result}
use Rattle.rules.specs.Choice.{need}
use Rattle.rules.specs.Order.{judge}
use Rattle.rules.specs.Refusals.{Said, no}
use Rattle.rules.specs.declared.State.{State}
use Rattle.rules.specs.declared.Reason.TheVariants.{BadValue}
use Rattle.check_state.specs.States.{has_few}
use Rattle.check_settle.specs.Settled.{JudgedTold}

-- 4 to 14, where the state's counts are few; another state is a value that is not allowed
unfoldable pub judge_few : List ℕ → State → Said State
judge_few l st = need (has_few st) (no BadValue 0) λ _. judge l st

abbrev pub LineJudged : List ℕ → State → Result State Refusal → Type 0
LineJudged l st r = JudgedTold (judge_few l st) r
