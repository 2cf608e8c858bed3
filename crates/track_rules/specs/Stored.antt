-- Records that steps find, stored into a list.
use Rattle.std.specs.Prelude.{ℕ, zero, suc, List, [], ◌∷◌, ◌++◌, drop}
use Rattle.track_rules.specs.declared.FixStep.{FixStep}
use Rattle.track_rules.specs.declared.Progress.{Progress}
use Rattle.track_rules.specs.declared.Record.{Record}

-- what n steps find, each from where the one before left off
unfoldable pub fixes_from : (Progress → FixStep) → Progress → ℕ → List Record
fixes_from step from zero = []
fixes_from step from (suc n) = (step from).found ∷ fixes_from step (step from).next n

-- the list with these in front, the rest as lent
abbrev pub stored : (Progress → FixStep) → Progress → ℕ → List Record → List Record
stored step from n list = fixes_from step from n ++ drop n list
