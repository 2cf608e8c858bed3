-- `byte_chars::codes_at` meets its contract: what is left of the text decides as the whole text does. Assumes nothing.
use Rattle.std.proofs.Common.{◌≡◌, ◌-◌, drop}
use Rattle.rules.specs.Choice.{leads}
use Rattle.rules.specs.Chars.{is_code, codes_at}
use Rattle.byte_chars.proofs.codes_at.Given as goal

abbrev pub invariant-loop-b : goal.invariant-loop-b
invariant-loop-b l = codes_at l.s l.at l.n ≡ leads is_code (l.n - l.b-index) (drop l.b-index l.text)
