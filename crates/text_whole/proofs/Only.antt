-- One answer at most meets the promise of this crate, and one buffer afterwards. Assumes nothing.
use Rattle.std.specs.Prelude.{None, Option, Some}
use Prim.Native.Nat.{ℕ}
use mathlib.Core.List.{List}
use mathlib.Core.Path.{◌≡◌, refl, sym, ap, ◌∙◌}
use native.Mathlib.Omega.{arith}
use Rattle.text_whole.specs.Whole.{Delivered}

told_same : (r r' : Option ℕ) → r ≡ r' → r ≡ r'
told_same (Some n) (Some m) e = cc
told_same (Some n) None e = let z : ◌≡◌ {A = ℕ} 0 1 = cc in absurd (omega arith)
told_same None (Some m) e = let z : ◌≡◌ {A = ℕ} 0 1 = cc in absurd (omega arith)
told_same None None e = refl

pub only_delivered : (text out : List ℕ) (r r' : Option ℕ) (after after' : List ℕ) → Delivered text out r after → Delivered text out r' after' → (r ≡ r') × (after ≡ after')
only_delivered text out r r' after after' s s' = (told_same r r' (s.said ∙ sym s'.said), s.bytes ∙ sym s'.bytes)
