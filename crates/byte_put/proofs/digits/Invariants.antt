-- `byte_put::digits` meets its contract: what is left to put from here is the whole answer. Assumes nothing.
use Rattle.std.proofs.Common.{◌≡◌}
use lib.Seq.{sets}
use Rattle.rules.specs.Numbers.{digits_of}
use Rattle.byte_put.proofs.digits.Given as goal

abbrev pub invariant-loop-i : goal.invariant-loop-i
invariant-loop-i l = sets l.initial.out l.at (digits_of l.n l.v) ≡ sets l.out l.at (digits_of l.i l.x)
