-- Two lists brought together: such a list there is, which one walk over the two in order makes, and only one; the same either way and in any pairing; and what holds of
-- all elements of both holds of all of its. Assumes nothing.
use Prim.Native.Nat.{ℕ, zero, suc, ◌≤◌}
use mathlib.Core.Bool.{Bool}
use mathlib.Core.List.{List, [], ◌∷◌}
use mathlib.Core.Path.{◌≡◌, refl, sym, subst}
use native.Mathlib.Omega.{arith}
use Rattle.rules.specs.Choice.{Each}
use Rattle.notes_sorted.specs.Sorted.{Total, hit, count, Together}
use Rattle.notes_sorted.specs.Ways.{in_order, weave}
use Rattle.notes_sorted.proofs.Sorting.{hit_is, hit_self, unique, into_count, into_sorted, weave_sorted, weave_count}

module _ {A : Type 0} {le : A → A → Bool} (O : Total le) where
  -- ---- such a list there is, and only one

  -- the walk over the two lists in order makes it
  pub weave_is : (xs ys : List A) → Together le xs ys (weave le (in_order le xs) (in_order le ys))
  weave_is xs ys =
      let s = into_sorted O [] xs tt in
      let t = into_sorted O [] ys tt in
      record {
        sorted = weave_sorted O (in_order le xs) (in_order le ys) s t;
        kept = λ z. omega (arith, weave_count O z (in_order le xs) (in_order le ys) s t, into_count O z [] xs, into_count O z [] ys);
      }

  pub together_once : (xs ys zs ws : List A) → Together le xs ys zs → Together le xs ys ws → zs ≡ ws
  together_once xs ys zs ws t u = unique O zs ws t.sorted u.sorted (λ z. omega (arith, t.kept z, u.kept z))

  -- ---- in any order and pairing

  -- "The order of the two copies changes no byte"
  pub together_turned : (xs ys zs : List A) → Together le xs ys zs → Together le ys xs zs
  together_turned xs ys zs t = record { sorted = t.sorted; kept = λ z. omega (arith, t.kept z) }

  -- "nor does the pairing of three"
  pub together_paired : (xs ys zs us vs ws qs : List A) → Together le xs ys us → Together le us zs ws → Together le ys zs vs → Together le xs vs qs → ws ≡ qs
  together_paired xs ys zs us vs ws qs t w u q =
      unique O ws qs w.sorted q.sorted (λ z. omega (arith, t.kept z, w.kept z, u.kept z, q.kept z))

  -- with itself: its own elements, in order
  pub together_self : (xs : List A) → Together le xs xs (in_order le xs)
  together_self xs = record { sorted = into_sorted O [] xs tt; kept = λ z. omega (arith, into_count O z [] xs) }

  -- ---- what holds of all elements

  module _ (P : A → Type 0) where
    counted_holds : (z : A) (xs : List A) → Each P xs → 1 ≤ count le z xs → P z
    counted_holds z [] h n = absurd (omega arith)
    counted_holds z (x ∷ xs) h n = go (counted_holds z xs h.1) (hit le z x) refl
      where
        go : (1 ≤ count le z xs → P z) → (k : ℕ) → hit le z x ≡ k → P z
        go more zero e = more (omega arith)
        go more (suc k) e = subst P (sym (hit_is O z x (omega arith))) h.0

    each_counted : (zs : List A) → ((z : A) → 1 ≤ count le z zs → P z) → Each P zs
    each_counted [] h = tt
    each_counted (z ∷ zs) h = (h z (omega (arith, hit_self O z)), each_counted zs (λ w n. h w (omega arith)))

    pub together_each : (xs ys zs : List A) → Together le xs ys zs → Each P xs → Each P ys → Each P zs
    together_each xs ys zs t h k = each_counted zs (λ z n. go z n (count le z xs) refl)
      where
        go : (z : A) → 1 ≤ count le z zs → (m : ℕ) → count le z xs ≡ m → P z
        go z n zero e = counted_holds z ys k (omega (arith, t.kept z))
        go z n (suc m) e = counted_holds z xs h (omega arith)
