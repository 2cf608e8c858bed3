-- The promise of the test that entries can be a line's.
use Rattle.std.specs.Prelude.{ℕ, Bool, List, ◌≡◌}
use Rattle.rules.specs.Looks.{fits_line}
use Rattle.rules.specs.declared.Layout.{Layout}

-- "the look gives 17 for an answer with over 13 entries, a code twice or an entry not inside the line lent with it or with its last byte before its first"
abbrev pub FitsTest : List ℕ → Layout → Bool → Type 0
FitsTest line es r = r ≡ fits_line line es
