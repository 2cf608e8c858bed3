-- The texts of fields: how long each is; and texts put one after the other. Assumes nothing.
use Rattle.rules.specs.declared.Date.{Date}
use Rattle.std.specs.Prelude.{None, Option, Some}
use Prim.Native.Nat.{ℕ, zero, suc, ◌+◌, ◌*◌, ◌/◌, ◌≤◌}
use mathlib.Core.List.{List, [], ◌∷◌, ◌++◌}
use mathlib.Core.Path.{◌≡◌, refl, ◌∙◌, ap}
use native.Mathlib.Nat.{add-zero}
use native.Mathlib.Numerals.{add-one}
use native.Mathlib.Omega.{arith}
use lib.IntN.{ℤ, pos, negsuc}
use lib.ListN.{length, set, take, drop, length-append}
use lib.Seq.{sets, take-take}
use Rattle.rules.specs.Numbers.{digits_of, pairs_text}
use Rattle.rules.specs.Fields.{date_text, metres_text}
use Rattle.rules.specs.Writes.{entry_text, entry_texts, planned_text}
use Rattle.rules.specs.declared.Entry.{Entry}

-- ---- how long a text is

pub digits_length : (n v : ℕ) → length (digits_of n v) ≡ n
unfolding digits_of
digits_length zero v = refl
digits_length (suc n) v = simp (length-append, digits_length n (v / 10)) (add-one n)

pub pairs_length : (a b c : ℕ) → length (pairs_text a b c) ≡ 6
pairs_length a b c = simp (length-append, digits_length)

pub planned_length : (f : Option Date) → length (planned_text f) ≡ 6
unfolding planned_text date_text
planned_length (Some d) = pairs_length _ _ _
planned_length None = digits_length 6 0

pub metres_length : (z : ℤ) → length (metres_text z) ≡ 5
metres_length (pos n) = digits_length 5 n
metres_length (negsuc n) = ap suc (digits_length 4 (n + 1))

pub entry_length : (e : Entry) → length (entry_text e) ≡ 7
unfolding entry_text
entry_length e = simp (length-append, digits_length)

pub entries_length : (es : List Entry) → length (entry_texts es) ≡ 7 * length es
unfolding entry_texts
entries_length [] = refl
entries_length (e ∷ es) = rw (length-append, entry_length, entries_length es) (omega arith)

-- ---- texts put one after the other

-- what is put in two goes is put in one
pub sets_append : (l : List ℕ) (at : ℕ) (a b : List ℕ) → sets l at (a ++ b) ≡ sets (sets l at a) (at + length a) b
sets_append l at [] b = rw add-zero
sets_append l at (x ∷ a) b =
    let e : suc at + length a ≡ at + suc (length a) = omega arith in
    sets_append (set l at x) (suc at) a b ∙ ap (λ (m : ℕ). sets (sets (set l at x) (suc at) a) m b) e

-- ---- parts of a text

-- so many bytes from a place on are the same in a text that is cut behind them
pub part_front : (i c n : ℕ) (l : List ℕ) → i + c ≤ n → take c (drop i (take n l)) ≡ take c (drop i l)
part_front zero c n l h = take-take c n l (omega arith)
part_front (suc i) c zero l h = absurd (omega arith)
part_front (suc i) c (suc n) [] h = refl
part_front (suc i) c (suc n) (x ∷ l) h = part_front i c n l (omega arith)
