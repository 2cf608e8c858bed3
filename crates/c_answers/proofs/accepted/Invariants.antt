-- `accepted` meets its contract: the first i values are stored. Assumes nothing.
use Rattle.std.proofs.Common.{◌∷◌, ◌≡◌, take}
use Rattle.c_answers.specs.Answers.{size, filled}
use Rattle.c_answers.proofs.accepted.Given as goal

abbrev pub invariant-loop-i : goal.invariant-loop-i
invariant-loop-i l = l.all ≡ filled size (0 ∷ 0 ∷ take l.i l.values)
