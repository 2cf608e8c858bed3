-- The promise of a position's sign.
use Rattle.std.specs.Prelude.{Bool, ◌≡◌}
use Rattle.rules.specs.Degrees.{is_negated}
use Rattle.rules.specs.declared.FinePosition.{FinePosition}

-- "negated for S and W, and plain zero for count 0 under either letter"
abbrev pub NegatedTest : FinePosition → Bool → Type 0
NegatedTest p r = r ≡ is_negated p
