-- The promises of the counts by family: u32 numbers, with one line more too, since a file has at most so many bytes.
use Rattle.std.specs.Prelude.{ℕ, Bool, ◌&&◌, cond, ◌≡◌, leb}
use Rattle.rules.specs.Families.{one_more}
use Rattle.rules.specs.declared.Counts.{Counts}
use Rattle.rules.specs.declared.Family.{Family}

abbrev pub is_few : ℕ → Bool
is_few n = leb n 16777216

unfoldable pub are_few : Counts → Bool
are_few ns = is_few ns.b && is_few ns.k && is_few ns.n

abbrev pub FewCounts : Counts → Bool → Type 0
FewCounts ns r = r ≡ are_few ns

-- where the counts are not few, they stay as they are
unfoldable pub more_of : Family → Counts → Counts
more_of f ns = cond (are_few ns) (one_more f ns) ns

abbrev pub OneCounted : Family → Counts → Counts → Type 0
OneCounted f ns r = r ≡ more_of f ns
