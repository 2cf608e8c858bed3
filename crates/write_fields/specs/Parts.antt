-- The promises of the parts that fields are put with: three numbers of two digits each, and a position of any width.
use Rattle.std.specs.Prelude.{ℕ, List, ◌≡◌}
use Rattle.rules.specs.Numbers.{pairs_text}
use Rattle.rules.specs.Fields.{position_text}
use Rattle.rules.specs.Writes.{put_at}
use Rattle.rules.specs.declared.Position.{Position}

abbrev pub PairsPut : ℕ → ℕ → ℕ → ℕ → List ℕ → List ℕ → Type 0
PairsPut a b c at out after = after ≡ put_at out at (pairs_text a b c)

abbrev pub PositionPut : ℕ → Position → ℕ → List ℕ → List ℕ → Type 0
PositionPut width p at out after = after ≡ put_at out at (position_text width p)
