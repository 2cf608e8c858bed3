-- The values of an answer on a line with its layout, and what stands beside them.
use Rattle.std.specs.Prelude.{ℕ, ◌-◌, ◌/◌, ◌%◌, List, [], ◌∷◌, ℤ, pos}
use Rattle.rules.specs.Choice.{byte}
use Rattle.rules.specs.declared.Span.{Span}
use Rattle.rules.specs.Refusals.{Said, says, refuses}
use Rattle.rules.specs.declared.Entry.{Entry}
use Rattle.rules.specs.declared.Signed.{Signed}

-- a column's text: how many bytes stand before it, and its length
abbrev pub span_numbers : Span → List ℕ
span_numbers s = byte s.first ∷ (s.last - byte s.first) ∷ []

-- a column's number stands beside the answer
abbrev pub signed_numbers : Signed → List ℕ
signed_numbers z = []

-- a column of a layout: the three characters of its code, its first and its last byte
abbrev pub entry_numbers : Entry → List ℕ
entry_numbers e = (e.code / 65536) ∷ (e.code / 256 % 256) ∷ (e.code % 256) ∷ e.first ∷ e.last ∷ []

-- ---- what stands beside the answer

-- a column's number; 0 where refused
abbrev pub integers_of : Said Signed → List ℤ
integers_of (says z) = z.value ∷ []
integers_of (refuses n l b) = pos 0 ∷ []
