-- The look for a packed code into entries that are lent as numbers, number by number; and its promise.
use Rattle.rules.specs.declared.Refusal.{Refusal}
use Rattle.std.specs.Prelude.{ℕ, zero, suc, ◌+◌, Bool, true, false, not, cond, List, ◌≡◌, eqb, leb, length, get_or, None, Option, Result, Some}
use Rattle.rules.specs.Choice.{given, need}
use Rattle.rules.specs.declared.Span.{Span}
use Rattle.rules.specs.Looks.{is_inside}
use Rattle.rules.specs.Refusals.{Said, says, no, result_told}
use Rattle.rules.specs.declared.Entry.{Entry}
use Rattle.rules.specs.declared.Reason.TheVariants.{BadValue, Absent}
use Rattle.c_entries.specs.Lent.{entries_size}

-- the entry whose three numbers stand behind others
abbrev pub entry_of : List ℕ → ℕ → Entry
entry_of ns at = record { first = get_or ns (at + 1) 0; last = get_or ns (at + 2) 0; code = get_or ns at 0 }

-- its numbers are such as an entry holds, and it stands inside a line of so many bytes
unfoldable pub stands_in : ℕ → List ℕ → ℕ → Bool
stands_in bytes ns at =
    need (leb (get_or ns at 0) 4294967295) false λ _.
    need (leb (get_or ns (at + 1) 0) 255) false λ _.
    need (leb (get_or ns (at + 2) 0) 255) false λ _.
    is_inside bytes (entry_of ns at)

-- how many numbers stand before the first entry of a code, among those that are left
unfoldable pub place_in : ℕ → List ℕ → ℕ → ℕ → Option ℕ
place_in zero ns at x = None
place_in (suc left) ns at x = cond (eqb (get_or ns at 0) x) (Some at) (place_in left ns (at + 3) x)

-- there is one
abbrev pub is_in : ℕ → List ℕ → ℕ → ℕ → Bool
is_in left ns at x = given (place_in left ns at x) false λ p. true

-- each of those that are left stands inside the line, and its code does not come again
unfoldable pub fit_in : ℕ → ℕ → List ℕ → ℕ → Bool
fit_in bytes zero ns at = true
fit_in bytes (suc left) ns at =
    need (stands_in bytes ns at) false λ _.
    need (not (is_in left ns (at + 3) (get_or ns at 0))) false λ _.
    fit_in bytes left ns (at + 3)

-- the first and last byte of the entry behind so many numbers
abbrev pub span_in : List ℕ → ℕ → Span
span_in ns at = record { first = get_or ns (at + 1) 0; last = get_or ns (at + 2) 0 }

-- the look for a packed code x in a line of so many bytes, number by number
unfoldable pub column_in : ℕ → List ℕ → ℕ → Said Span
column_in bytes ns x =
    need (eqb (length ns) entries_size) (no BadValue 0) λ _.
    need (leb (get_or ns 0 0) 13) (no BadValue 0) λ _.
    need (fit_in bytes (get_or ns 0 0) ns 1) (no BadValue 0) λ _.
    given (place_in (get_or ns 0 0) ns 1 x) (no Absent 0) λ p.
    says (span_in ns p)

-- that this is the look of document 02 into the entries that the numbers tell is shown in c_look
abbrev pub ColumnSought : ℕ → List ℕ → ℕ → Result Span Refusal → Type 0
ColumnSought bytes ns x r = result_told r ≡ column_in bytes ns x
