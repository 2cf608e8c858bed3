-- The constant table is the list of the listed codes, row for row. Assumes nothing.
use Prim.Native.Nat.{ℕ}
use mathlib.Core.Bool.{false}
use mathlib.Core.List.{List, [], map}
use mathlib.Core.Path.{◌≡◌, sym}
use lib.ListN.{get_or, get_or-map}
use Rattle.rules.specs.Choice.{bytes}
use Rattle.rules.specs.Listed.{listed, unlisted, code_text}
use Rattle.rules.specs.declared.Listed.{Listed}
use Rattle.layout_codes.specs.Parts.{in_row}
use Rattle.layout_codes.specs.declared.Row.{Row}

abbrev row_of : Listed → Row
row_of r = (code_text r.code, r.least, r.most, r.sign)

abbrev pub rows : List Row
rows = map row_of listed

pub row_at : (n : ℕ) → in_row (get_or rows n ([], 0, 0, false)) ≡ get_or listed n unlisted
unfolding bytes listed
row_at n = sym (get_or-map in_row rows n ([], 0, 0, false))
