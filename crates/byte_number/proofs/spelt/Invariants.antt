-- `byte_number::spelt` meets its contract: what is left to spell from here is the whole answer, and what is spelt leaves room for it. Assumes nothing.
use Rattle.std.proofs.Common.{◌≡◌, ◌-◌, ◌^◌, ◌<◌, length, drop}
use Rattle.rules.specs.Numbers.{spell}
use Rattle.byte_number.proofs.spelt.Given as goal

abbrev pub invariant-loop-b : goal.invariant-loop-b
invariant-loop-b l = (spell (length l.text) 0 l.text ≡ spell (length l.text - l.b-index) l.v (drop l.b-index l.text)) × (l.v < 10 ^ l.b-index)
