-- The rest of a file from a byte on, and whether CR LF stands there, a byte at a time: what the scans of a file use. Assumes nothing.
use Prim.Native.Nat.{ℕ, ◌+◌, ◌≤◌, ◌<◌}
use mathlib.Core.Bool.{false, ◌&&◌, and-false}
use mathlib.Core.List.{List, ◌∷◌}
use mathlib.Core.Path.{◌≡◌, sym}
use native.Mathlib.Nat.{add-zero}
use native.Mathlib.Numerals.{add-one}
use native.Mathlib.Omega.{arith}
use borrow.Author.Tests.{ne_eqb}
use lib.Dec.{eqb}
use lib.ListN.{length, get_or, drop, get_or-eq_default}
use lib.Seq.{drop-cons, get_or-drop}
use Rattle.rules.specs.Split.{begins_crlf}

module _ (f : List ℕ) (i : ℕ) where
  -- the rest of a file, with the code's `i + 1`
  pub rest : i < length f → drop i f ≡ get_or f i 0 ∷ drop (i + 1) f
  rest h = rw add-one (drop-cons f i 0 h)

  begins_at : begins_crlf (drop i f) ≡ (eqb (get_or f i 0) 13 && eqb (get_or f (i + 1) 0) 10)
  unfolding begins_crlf
  begins_at = simp (get_or-drop, add-zero)

  pub begins_short : length f < i + 2 → false ≡ begins_crlf (drop i f)
  begins_short h =
      let l : length f ≤ i + 1 = omega arith in rw (begins_at, get_or-eq_default f 0 l) (sym (and-false (eqb (get_or f i 0) 13)))

  pub begins_cr : get_or f i 0 ≡ 13 → eqb (get_or f (i + 1) 0) 10 ≡ begins_crlf (drop i f)
  begins_cr e = rw (begins_at, e)

  pub begins_not : (get_or f i 0 ≡ 13 → ⊥) → eqb (get_or f i 0) 13 ≡ begins_crlf (drop i f)
  begins_not n = rw begins_at (simp (ne_eqb _ _ n))
