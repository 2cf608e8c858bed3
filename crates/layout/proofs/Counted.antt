-- "the count is its ones, equal to the listed entries in the layout": in an allowed layout no code comes twice, so the presence word has as many ones as the
-- layout has entries of a listed code. Assumes nothing.
use Rattle.std.specs.Prelude.{None, Option, Some}
use Prim.Native.Nat.{ℕ, ◌+◌, ◌-◌, ◌≤◌, ◌<◌}
use mathlib.Core.Bool.{Bool, true, false, not, ◌&&◌, cond, false≢true}
use mathlib.Core.List.{List, [], ◌∷◌, ◌++◌, map, append-nil, append_assoc}
use mathlib.Core.Path.{◌≡◌, refl, sym, ◌∙◌, ap}
use native.Mathlib.Numerals.{add-one}
use native.Mathlib.Omega.{arith}
use borrow.Author.Tests.{leb-true}
use lib.Dec.{eqb, leb}
use lib.ListN.{length, length-set, length-take}
use lib.Seq.{take-suc-set}
use Rattle.rules.specs.Choice.{given, need}
use Rattle.rules.specs.Refusals.{says, no}
use Rattle.rules.specs.Listed.{listed, listed_number, width_fits}
use Rattle.rules.specs.Layouts.{empty_layout, with_entry, entries_of, span_of, look, carries, placed, is_said, is_spelt, all_placed, allowed, presence_of, listed_in}
use Rattle.rules.specs.declared.Reason.TheVariants.{Tile, Twice, Width}
use Rattle.rules.specs.declared.Listed.{Listed}
use Rattle.rules.specs.declared.Entry.{Entry}
use Rattle.rules.specs.declared.Layout.{Layout}
use Rattle.rules.proofs.Inverse.{and_inv}
use Rattle.rules_values.proofs.Presence.{set_bits, count_bits}
use Rattle.layout.proofs.Common.{member, distinct, common, swap, distinct_snoc, scan_member}

abbrev codes_of : List Entry → List ℕ
codes_of es = map (λ e. e.code) es

abbrev row_codes : List Listed → List ℕ
row_codes rs = map (λ r. r.code) rs

-- ---- looking up is membership

carries_member : (l : Layout) (x : ℕ) → carries l x ≡ member x (codes_of (entries_of l))
unfolding carries look
carries_member l x = scan_member (λ e. e.code) (λ k e. span_of e) x (entries_of l) 0

one : (o : Option ℕ) → ◌≡◌ {A = ℕ} (given o 0 (λ n. 1)) (cond (given o false (λ n. true)) 1 0)
one (Some n) = refl
one None = refl

listed_member : (x : ℕ) → ◌≡◌ {A = ℕ} (given (listed_number x) 0 (λ n. 1)) (cond (member x (row_codes listed)) 1 0)
unfolding listed_number
listed_member x = one (listed_number x) ∙ ap (λ b. cond b 1 0) (scan_member (λ r. r.code) (λ n r. n) x listed 0)

carried_common : (l : Layout) (rs : List Listed) → set_bits l rs ≡ common (row_codes rs) (codes_of (entries_of l))
unfolding set_bits
carried_common l [] = refl
carried_common l (r ∷ rs) = rw (carried_common l rs, carries_member l r.code)

listed_common : (es : List Entry) → listed_in es ≡ common (codes_of es) (row_codes listed)
unfolding listed_in
listed_common [] = refl
listed_common (e ∷ es) = rw (listed_common es, listed_member e.code)

rows_distinct : distinct (row_codes listed) ≡ true
unfolding listed
rows_distinct = refl

ones_listed : (l : Layout) → distinct (codes_of (entries_of l)) ≡ true → (presence_of l).count ≡ listed_in (entries_of l)
unfolding presence_of
ones_listed l d =
    count_bits l listed ∙ carried_common l listed
    ∙ swap (row_codes listed) (codes_of (entries_of l)) rows_distinct d ∙ sym (listed_common (entries_of l))

-- ---- in an allowed layout no code comes twice

codes_join : (es fs : List Entry) → codes_of (es ++ fs) ≡ codes_of es ++ codes_of fs
codes_join [] fs = refl
codes_join (e ∷ es) fs = ap (λ r. e.code ∷ r) (codes_join es fs)

entries_with : (l : Layout) (e : Entry) → l.count < length l.entries → entries_of (with_entry l e) ≡ entries_of l ++ (e ∷ [])
entries_with l e h = rw (add-one, take-suc-set l.entries l.count e h)

-- an entry that is placed has a new code
new : (start : ℕ) (before : Layout) (e : Entry) → is_said (placed start before e 0) ≡ true → carries before e.code ≡ false
unfolding placed
new start before e p = go (eqb e.first start) (leb e.first e.last) (carries before e.code) p
  where
    go : (a b c : Bool)
        → is_said (need a (no Tile 0) (λ _. need b (no Tile 0) (λ _. need (not c) (no Twice 0) (λ _. need (width_fits e.code (e.last - e.first + 1)) (no Width 0) (λ _. says e))))) ≡ true
        → c ≡ false
    go true true false p = refl
    go true true true p = absurd (false≢true p)
    go true false c p = absurd (false≢true p)
    go false b c p = absurd (false≢true p)

placed_distinct : (es : List Entry) (start : ℕ) (before : Layout) → length before.entries ≡ 13 → before.count + length es ≤ 13
    → distinct (codes_of (entries_of before)) ≡ true → all_placed es start before ≡ true → distinct (codes_of (entries_of before ++ es)) ≡ true
unfolding all_placed
placed_distinct [] start before long room d p = ap (λ es. distinct (codes_of es)) (append-nil (entries_of before)) ∙ d
placed_distinct (e ∷ es) start before long room d p =
    let q = and_inv (is_spelt e && is_said (placed start before e 0)) (all_placed es (e.last + 1) (with_entry before e)) p in
    let fresh = sym (carries_member before e.code) ∙ new start before e (and_inv (is_spelt e) (is_said (placed start before e 0)) q.0).1 in
    let one : distinct (codes_of (entries_of before ++ (e ∷ []))) ≡ true =
    ap distinct (codes_join (entries_of before) (e ∷ [])) ∙ distinct_snoc (codes_of (entries_of before)) e.code d fresh in
    let w = entries_with before e (omega arith) in
    let rest = placed_distinct es (e.last + 1) (with_entry before e) (length-set before.entries before.count e ∙ long) (omega arith) (ap (λ es. distinct (codes_of es)) w ∙ one) q.1 in
    ap (λ es. distinct (codes_of es)) (sym (append_assoc (entries_of before) (e ∷ []) es) ∙ ap (λ fs. fs ++ es) (sym w)) ∙ rest

-- The count of the presence word is the number of listed entries.
pub count_listed : (start : ℕ) (l : Layout) → allowed start l ≡ true → (presence_of l).count ≡ listed_in (entries_of l)
unfolding allowed
count_listed start l p =
    let q = and_inv (leb l.count 13 && all_placed (entries_of l) start empty_layout) _ p in
    let r = and_inv (leb l.count 13) (all_placed (entries_of l) start empty_layout) q.0 in
    let few : length (entries_of l) ≤ 13 = simp length-take (omega (arith, leb-true l.count 13 r.0)) in
    ones_listed l (placed_distinct (entries_of l) start empty_layout refl (omega arith) refl r.1)
