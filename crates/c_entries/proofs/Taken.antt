-- The entries that numbers tell, as one list: what `taken_from` says is the layout of that list, or 17 where there is none. Assumes nothing.
use Rattle.std.specs.Prelude.{None, Option, Some}
use Prim.Native.Nat.{ℕ, zero, suc, ◌+◌, ◌≤◌}
use mathlib.Core.List.{List, [], ◌∷◌, ◌++◌, append_assoc, append-nil}
use mathlib.Core.Path.{◌≡◌, refl, sym, ap, ◌∙◌}
use native.Mathlib.Omega.{arith}
use lib.ListN.{length, length-append}
use Rattle.rules.specs.Choice.{given}
use Rattle.rules.specs.Layouts.{empty_layout, with_entry}
use Rattle.rules.specs.Refusals.{Said, says}
use Rattle.rules.specs.declared.Entry.{Entry}
use Rattle.rules.specs.declared.Layout.{Layout}
use Rattle.rules_sound.proofs.Placed.{laid, with_laid}
use Rattle.c_entries.specs.Lent.{entry_in, no_entries, taken_from}

-- the entries that are left, behind so many numbers; none where a number is past what an entry holds
unfoldable pub entries_in : ℕ → List ℕ → ℕ → Option (List Entry)
entries_in zero ns at = Some []
entries_in (suc left) ns at = given (entry_in ns at) None λ e. given (entries_in left ns (at + 3)) None λ es. Some (e ∷ es)

-- the layout of entries behind others
abbrev behind : List Entry → Option (List Entry) → Said Layout
behind pre o = given o no_entries λ es. says (laid (pre ++ es))

-- one entry before those of a list
one_before : (pre : List Entry) (e : Entry) (o : Option (List Entry)) → behind (pre ++ (e ∷ [])) o ≡ behind pre (given o None λ es. Some (e ∷ es))
one_before pre e None = refl
one_before pre e (Some es) = ap (λ (x : List Entry). says (laid x)) (append_assoc pre (e ∷ []) es)

taken_behind : (left : ℕ) (ns : List ℕ) (at : ℕ) (pre : List Entry) → length pre + left ≤ 13 → taken_from left ns at (laid pre) ≡ behind pre (entries_in left ns at)
unfolding taken_from entries_in
taken_behind zero ns at pre n = ap (λ (x : List Entry). says (laid x)) (sym (append-nil pre))
taken_behind (suc left) ns at pre n = go (entry_in ns at) λ e. taken_behind left ns (at + 3) (pre ++ (e ∷ [])) (omega (arith, length-append pre (e ∷ [])))
  where
    go : (o : Option Entry) → ((e : Entry) → taken_from left ns (at + 3) (laid (pre ++ (e ∷ []))) ≡ behind (pre ++ (e ∷ [])) (entries_in left ns (at + 3)))
        → given o no_entries (λ e. taken_from left ns (at + 3) (with_entry (laid pre) e)) ≡ behind pre (given o None λ e. given (entries_in left ns (at + 3)) None λ es. Some (e ∷ es))
    go None rest = refl
    go (Some e) rest = ap (taken_from left ns (at + 3)) (with_laid pre e (omega arith)) ∙ rest e ∙ one_before pre e (entries_in left ns (at + 3))

-- from the first entry on
pub taken_entries : (count : ℕ) (ns : List ℕ) (at : ℕ) → count ≤ 13 → taken_from count ns at empty_layout ≡ given (entries_in count ns at) no_entries λ es. says (laid es)
taken_entries count ns at n = taken_behind count ns at [] (omega arith)
