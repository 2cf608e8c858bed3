-- Two answers that meet the promise of a position's sign are the same. Assumes nothing.
use mathlib.Core.Bool.{Bool}
use mathlib.Core.Path.{◌≡◌, sym, ◌∙◌}
use Rattle.rules.specs.declared.FinePosition.{FinePosition}
use Rattle.field_degrees.specs.Signs.{NegatedTest}

pub only_negated_test : (p : FinePosition) (r r' : Bool) → NegatedTest p r → NegatedTest p r' → r ≡ r'
only_negated_test p r r' e e' = e ∙ sym e'
