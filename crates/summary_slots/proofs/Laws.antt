-- Numbers put one after the other into a list, and twelve of them where they have room or have none. Assumes nothing.
use Prim.Native.Nat.{ℕ, ◌+◌, ◌-◌, ◌≤◌, ◌<◌}
use Rattle.std.specs.Option.{is_some}
use mathlib.Core.Bool.{Bool}
use mathlib.Core.List.{List, [], ◌∷◌}
use mathlib.Core.Path.{◌≡◌, refl, ◌∙◌}
use native.Mathlib.Numerals.{towards_suc}
use native.Mathlib.Omega.{arith}
use borrow.Author.Tests.{le-leb, lt-leb}
use lib.IntN.{ℤ}
use lib.ListN.{length, set}
use lib.Seq.{sets}
use Rattle.summary_span.specs.Sums.{figure_of, span_or_zero}
use Rattle.summary_span.specs.declared.Span.{Span}
use Rattle.summary_span.specs.declared.Figure.{Figure}
use Rattle.summary_span.specs.declared.Sum.{Sum}
use Rattle.summary_slots.specs.Slots.{flag_of, numbers_of, put_at}

module _ {A : Type 0} where
  pub four_set : (l : List A) (at : ℕ) (a b c d a' b' c' d' : A) → a' ≡ a → b' ≡ b → c' ≡ c → d' ≡ d
      → set (set (set (set l at a') (at + 1) b') (at + 2) c') (at + 3) d' ≡ sets l at (a ∷ b ∷ c ∷ d ∷ [])
  four_set l at a b c d a' b' c' d' e f g h = rw (e, f, g, h) (simp towards_suc)

-- twelve numbers put as four, four and four
pub twelve_set : (l k m after : List ℤ) (at n : ℕ) (s : Sum) (c f : Figure) (b : Bool) (h y x : Span)
    → c ≡ figure_of n → b ≡ is_some s.lats → f ≡ flag_of b → h ≡ span_or_zero s.heights → y ≡ span_or_zero s.lats → x ≡ span_or_zero s.lons
    → k ≡ sets l at (c.value ∷ s.first.day.value ∷ s.first.seconds.value ∷ s.last.day.value ∷ [])
    → m ≡ sets k (at + 4) (s.last.seconds.value ∷ h.greatest.value ∷ h.least.value ∷ f.value ∷ [])
    → after ≡ sets m (at + 4 + 4) (y.least.value ∷ y.greatest.value ∷ x.least.value ∷ x.greatest.value ∷ [])
    → after ≡ sets l at (numbers_of n s)
unfolding numbers_of
twelve_set l k m after at n s c f b h y x e d g p q r t i j = j ∙ rw (i, t, e, g, d, p, q, r) (simp towards_suc)

pub twelve : (n : ℕ) (s : Sum) → length (numbers_of n s) ≡ 12
unfolding numbers_of
twelve n s = refl

module _ (at n : ℕ) (s : Sum) (list : List ℤ) where
  pub put_none : length list < at + 12 → list ≡ put_at at (numbers_of n s) list
  unfolding put_at
  put_none h = rw (lt-leb (at + length (numbers_of n s)) (length list) (omega (arith, twelve n s)))

  pub put_there : 12 ≤ length list → at ≤ length list - 12 → (after : List ℤ) → after ≡ sets list at (numbers_of n s) → after ≡ put_at at (numbers_of n s) list
  unfolding put_at
  put_there h g after e = rw (le-leb (at + length (numbers_of n s)) (length list) (omega (arith, twelve n s))) e
