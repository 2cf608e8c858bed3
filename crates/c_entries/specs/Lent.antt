-- The entries of a reading as numbers, and the entries that numbers tell; the promise of this crate.
use Rattle.std.specs.Prelude.{ℕ, zero, suc, ◌+◌, cond, List, [], ◌∷◌, ◌≡◌, eqb, leb, length, get_or, set, None, Option, Some}
use Rattle.rules.specs.Choice.{given, need}
use Rattle.rules.specs.Refusals.{Said, says, no}
use Rattle.rules.specs.Layouts.{empty_layout, with_entry}
use Rattle.rules.specs.declared.Entry.{Entry}
use Rattle.rules.specs.declared.Layout.{Layout}
use Rattle.rules.specs.declared.Reason.TheVariants.{BadValue}

-- how many numbers the entries have: their count, and three for each of 13
abbrev pub entries_size : ℕ
entries_size = 40

-- "for each entry, in layout order, up to 13, its code, first and last byte"
abbrev pub triples : List Entry → List ℕ
triples [] = []
triples (e ∷ es) = e.code ∷ e.first ∷ e.last ∷ triples es

-- how many they are, and then each
abbrev pub entry_numbers : Layout → List ℕ
entry_numbers es = es.count ∷ triples es.entries

-- an entry's three numbers put behind others
abbrev pub with_triple : List ℕ → ℕ → Entry → List ℕ
with_triple ns at e = set (set (set ns at e.code) (at + 1) e.first) (at + 2) e.last

-- the entry that three numbers tell behind others: a code of 32 bits, two bytes
unfoldable pub entry_in : List ℕ → ℕ → Option Entry
entry_in ns at =
    need (leb (get_or ns at 0) 4294967295) None λ _.
    need (leb (get_or ns (at + 1) 0) 255) None λ _.
    need (leb (get_or ns (at + 2) 0) 255) None λ _.
    Some (record { first = get_or ns (at + 1) 0; last = get_or ns (at + 2) 0; code = get_or ns at 0 })

-- "17 BAD_VALUE: value .. given is not allowed"
abbrev pub no_entries : Said Layout
no_entries = no BadValue 0

-- the entries that are left, behind those of a layout
unfoldable pub taken_from : ℕ → List ℕ → ℕ → Layout → Said Layout
taken_from zero ns at before = says before
taken_from (suc left) ns at before = given (entry_in ns at) no_entries λ e. taken_from left ns (at + 3) (with_entry before e)

-- the entries that numbers tell: all its numbers, at most 13 entries, and each one
unfoldable pub taken_said : List ℕ → Said Layout
taken_said ns =
    need (eqb (length ns) entries_size) no_entries λ _.
    need (leb (get_or ns 0 0) 13) no_entries λ _.
    taken_from (get_or ns 0 0) ns 1 empty_layout

-- ---- the promise

abbrev pub EntriesPut : Layout → List ℕ → List ℕ → Type 0
EntriesPut es list after = after ≡ cond (eqb (length list) entries_size) (entry_numbers es) list
