-- `layout::reading::entries` meets its contract: what is left, behind the entries that are read, decides as all do from the start; and the codes are those of the entries. Assumes nothing.
use Prim.Native.Nat.{◌+◌, ◌-◌, ◌*◌}
use mathlib.Core.List.{map}
use mathlib.Core.Path.{◌≡◌, refl, sym, ◌∙◌, ap}
use native.Mathlib.Nat.{sub-zero}
use native.Mathlib.Omega.{arith}
use borrow.Author.Rules.{rules}
use lib.ListN.{length, set, length-set}
use Rattle.rules.specs.Refusals.{says, result_told}
use Rattle.rules.specs.Layouts.{empty_layout, entries_from}
use Rattle.rules.specs.declared.Entry.{Entry}
use Rattle.layout_entry.proofs.Codes.{entry_alike, codes_set}
use Rattle.layout.proofs.Turns.{taken, ends, done, told_same, told_read}
use Rattle.layout.proofs.reading.entries.Given as goal

abbrev pub invariant-loop-i : goal.invariant-loop-i
invariant-loop-i l =
    (length l.codes ≡ 13) × (map (λ (e : Entry). e.code) l.entries ≡ l.codes)
    × (entries_from (l.count - l.i) l.line (3 + 7 * l.i) l.start (record { count = l.i; entries = l.entries }) ≡ entries_from l.count l.line 3 l.origin empty_layout)
