-- The three families of lines with columns: document 01's B lines, whose layout an I line tells, and K lines, whose layout a J line tells, and document 02's N lines, whose
-- layout an M line tells. Their letters, first starts, layouts and counts stand here; their fields stand in Lines, their place in the order in Roles.
-- "M is built as J is"; "N is built as K is": K and N lines are the extra lines, and but for their letters the two families are one.
use Rattle.std.specs.Prelude.{ℕ, ◌+◌, cond, eqb, None, Option, Some}
use Prim.Native.Char.{code}
use Rattle.rules.specs.declared.Layout.{Layout}
use Rattle.rules.specs.declared.Extra.{Extra}
use Rattle.rules.specs.declared.Extra.TheVariants as extra
use Rattle.rules.specs.declared.Family.{Family}
use Rattle.rules.specs.declared.Family.TheVariants as family
use Rattle.rules.specs.declared.Layouts.{Layouts}
use Rattle.rules.specs.declared.Counts.{Counts}

-- "The first entry starts at 36 (I) or 8 (J)"; "M is built as J is"
abbrev pub first_start : Family → ℕ
first_start family.B = 36
first_start (family.Extra e) = 8

-- the first byte of a family's lines
abbrev pub line_letter : Family → ℕ
line_letter family.B = code "B"
line_letter (family.Extra extra.K) = code "K"
line_letter (family.Extra extra.N) = code "N"

-- the first byte of the line that tells their layout
abbrev pub layout_letter : Family → ℕ
layout_letter family.B = code "I"
layout_letter (family.Extra extra.K) = code "J"
layout_letter (family.Extra extra.N) = code "M"

-- the family whose letter this is
abbrev pub by_letter : (Family → ℕ) → ℕ → Option Family
by_letter letter b =
    cond (eqb b (letter family.B)) (Some family.B)
    (cond (eqb b (letter (family.Extra extra.K))) (Some (family.Extra extra.K))
    (cond (eqb b (letter (family.Extra extra.N))) (Some (family.Extra extra.N)) None))

-- the family of a line, by its first byte
unfoldable pub family_of : ℕ → Option Family
family_of b = by_letter line_letter b

-- the family whose layout a line tells, by the line's first byte
unfoldable pub layout_family_of : ℕ → Option Family
layout_family_of b = by_letter layout_letter b

-- the layout of a family among those of a file, and one put in its place
abbrev pub layout_of : Family → Layouts → Layout
layout_of family.B ls = ls.b
layout_of (family.Extra extra.K) ls = ls.k
layout_of (family.Extra extra.N) ls = ls.n

abbrev pub with_layout : Family → Layout → Layouts → Layouts
with_layout family.B l ls = record { b = l; k = ls.k; n = ls.n }
with_layout (family.Extra extra.K) l ls = record { b = ls.b; k = l; n = ls.n }
with_layout (family.Extra extra.N) l ls = record { b = ls.b; k = ls.k; n = l }

-- how many lines of a family a file has, and one more
abbrev pub count_of : Family → Counts → ℕ
count_of family.B ns = ns.b
count_of (family.Extra extra.K) ns = ns.k
count_of (family.Extra extra.N) ns = ns.n

abbrev pub one_more : Family → Counts → Counts
one_more family.B ns = record { b = ns.b + 1; k = ns.k; n = ns.n }
one_more (family.Extra extra.K) ns = record { b = ns.b; k = ns.k + 1; n = ns.n }
one_more (family.Extra extra.N) ns = record { b = ns.b; k = ns.k; n = ns.n + 1 }
