-- One turn of a loop over the entries that are left; and where an entry stands that was found. Assumes nothing.
use Rattle.std.specs.Prelude.{None, Some}
use Prim.Native.Nat.{ℕ, zero, suc, ◌+◌, ◌-◌, ◌*◌, ◌≤◌, ◌<◌}
use mathlib.Core.Bool.{Bool, true, false, not, cond}
use mathlib.Core.List.{List}
use mathlib.Core.Path.{◌≡◌, sym, ap, ◌∙◌}
use native.Mathlib.Omega.{arith}
use borrow.Author.Tests.{eq-eqb, ne_eqb, leb-true}
use lib.Dec.{eqb, leb}
use lib.ListN.{get_or}
use Rattle.rules.proofs.Inverse.{need_inv, none_some, false_true}
use Rattle.c_seek.specs.Parts.{stands_in, place_in, is_in, fit_in}

module _ (left : ℕ) (ns : List ℕ) (at : ℕ) where
  one_more : 0 < left → left ≡ suc (left - 1)
  one_more h = omega arith

  no_more : left ≤ 0 → left ≡ 0
  no_more h = omega arith

  -- ---- the first entry of a code

  pub place_here : (x : ℕ) → 0 < left → get_or ns at 0 ≡ x → Some at ≡ place_in left ns at x
  unfolding place_in
  place_here x h e = let k = ap (λ n. place_in n ns at x) (one_more h) in sym (k ∙ rw (eq-eqb (get_or ns at 0) x e))

  pub place_next : (x : ℕ) → 0 < left → (get_or ns at 0 ≡ x → ⊥) → place_in (left - 1) ns (at + 3) x ≡ place_in left ns at x
  unfolding place_in
  place_next x h e = let k = ap (λ n. place_in n ns at x) (one_more h) in sym (k ∙ rw (ne_eqb (get_or ns at 0) x e))

  pub place_none : (x : ℕ) → left ≤ 0 → None ≡ place_in left ns at x
  unfolding place_in
  place_none x h = rw (no_more h)

  -- ---- entries that fit

  module _ (bytes : ℕ) where
    opened : 0 < left → fit_in bytes left ns at ≡ fit_in bytes (suc (left - 1)) ns at
    opened h = ap (λ n. fit_in bytes n ns at) (one_more h)

    pub fit_outside : 0 < left → stands_in bytes ns at ≡ false → false ≡ fit_in bytes left ns at
    unfolding fit_in
    fit_outside h e = sym (opened h ∙ rw e)

    pub fit_again : 0 < left → stands_in bytes ns at ≡ true → is_in (left - 1) ns (at + 3) (get_or ns at 0) ≡ true → false ≡ fit_in bytes left ns at
    unfolding fit_in
    fit_again h e k = sym (opened h ∙ rw (e, k))

    pub fit_next : 0 < left → stands_in bytes ns at ≡ true → is_in (left - 1) ns (at + 3) (get_or ns at 0) ≡ false → fit_in bytes (left - 1) ns (at + 3) ≡ fit_in bytes left ns at
    unfolding fit_in
    fit_next h e k = sym (opened h ∙ rw (e, k))

    pub fit_done : left ≤ 0 → true ≡ fit_in bytes left ns at
    unfolding fit_in
    fit_done h = rw (no_more h)

-- ---- an entry that was found stands among the numbers, and where the entries fit its places are bytes

abbrev pub Bytes : List ℕ → ℕ → Type 0
Bytes ns at = (get_or ns (at + 1) 0 ≤ 255) × (get_or ns (at + 2) 0 ≤ 255)

stands_bytes : (bytes : ℕ) (ns : List ℕ) (at : ℕ) → stands_in bytes ns at ≡ true → Bytes ns at
unfolding stands_in
stands_bytes bytes ns at e =
    let a = need_inv (leb (get_or ns at 0) 4294967295) false true _ false_true e in
    let b = need_inv (leb (get_or ns (at + 1) 0) 255) false true _ false_true a.1 in
    let d = need_inv (leb (get_or ns (at + 2) 0) 255) false true _ false_true b.1 in
    (leb-true (get_or ns (at + 1) 0) 255 b.0, leb-true (get_or ns (at + 2) 0) 255 d.0)

pub found_stands : (bytes left : ℕ) (ns : List ℕ) (at x p : ℕ) → fit_in bytes left ns at ≡ true → place_in left ns at x ≡ Some p → (p + 3 ≤ at + 3 * left) × Bytes ns p
unfolding fit_in place_in
found_stands bytes zero ns at x p e f = absurd (none_some f)
found_stands bytes (suc left) ns at x p e f =
    let a = need_inv (stands_in bytes ns at) false true _ false_true e in
    let b = need_inv (not (is_in left ns (at + 3) (get_or ns at 0))) false true _ false_true a.1 in
    go (eqb (get_or ns at 0) x) f a.0 λ g. found_stands bytes left ns (at + 3) x p b.1 g
  where
    go : (t : Bool) → cond t (Some at) (place_in left ns (at + 3) x) ≡ Some p → stands_in bytes ns at ≡ true → (place_in left ns (at + 3) x ≡ Some p → (p + 3 ≤ at + 3 + 3 * left) × Bytes ns p) → (p + 3 ≤ at + 3 * suc left) × Bytes ns p
    go true f s r =
        let q : at ≡ p = cc in
        rw (← q) (omega arith, stands_bytes bytes ns at s)
    go false f s r =
        let k = r f in
        (omega (arith, k.0), k.1)
