-- The entry of a flight that is held, in the paper's terms.
use Rattle.std.specs.Prelude.{ℕ}
use Rattle.rules.specs.Refusals.{Said, says, refusal}
