-- What a line leaves, beside what is said of it.
use Rattle.std.specs.Prelude.{ℕ, ◌≡◌, Result, ⊤}
use Rattle.rules.specs.Order.{start, timed}
use Rattle.rules.specs.Refusals.{Said, says, no, refusal, and_then, outcome, value_or, result_told}
use Rattle.rules.specs.declared.State.{State}
use Rattle.rules.specs.declared.Reason.{Reason}
use Rattle.rules.specs.declared.Refusal.{Refusal}

-- the state after a line, or its refusal
abbrev pub JudgedTold : Said State → Result State Refusal → Type 0
JudgedTold s r = result_told r ≡ s

-- a line that is accepted and leaves this state
abbrev pub LinePassed : State → Result State Refusal → Type 0
LinePassed st r = JudgedTold (says st) r

-- a line that is refused
abbrev pub LineRefused : Refusal → Result State Refusal → Type 0
LineRefused why r = JudgedTold (refusal why) r

-- a refusal of the line in hand
abbrev pub RefusedAt : Reason → ℕ → Result State Refusal → Type 0
RefusedAt reason byte r = JudgedTold (no reason byte) r

-- a line that leaves this state where it is accepted
abbrev pub OutcomeJudged : Result ⊤ Refusal → State → Result State Refusal → Type 0
OutcomeJudged read st r = JudgedTold (and_then (result_told read) λ _. says st) r

-- a line that has a time, in the time order
abbrev pub TimeJudged : Result ℕ Refusal → State → Result State Refusal → Type 0
TimeJudged read st r = JudgedTold (and_then (result_told read) λ t. timed t st) r
