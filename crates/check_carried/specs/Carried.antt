-- What a line that is carried and not read leaves: length and characters of G, L and other lines are looked at, and nothing else.
use Rattle.rules.specs.declared.Refusal.{Refusal}
use Rattle.std.specs.Prelude.{ℕ, List, Result}
use Rattle.rules.specs.Lines.{g_line, l_line, other_line}
use Rattle.rules.specs.Order.{signed_off}
use Rattle.rules.specs.Refusals.{says, and_then}
use Rattle.rules.specs.declared.State.{State}
use Rattle.check_settle.specs.Settled.{JudgedTold}

-- a G line: the file is signed by it
abbrev pub SealJudged : List ℕ → State → Result State Refusal → Type 0
SealJudged l st r = JudgedTold (and_then (g_line l) λ _. says (signed_off st)) r

-- an L line leaves the state as it is
abbrev pub RemarkJudged : List ℕ → State → Result State Refusal → Type 0
RemarkJudged l st r = JudgedTold (and_then (l_line l) λ _. says st) r

-- a line of a letter that has no rules of its own
abbrev pub OtherJudged : List ℕ → State → Result State Refusal → Type 0
OtherJudged l st r = JudgedTold (and_then (other_line l) λ _. says st) r
