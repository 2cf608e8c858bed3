-- Altitudes: how long their text is, what it is by their sign and size, and one put before what follows it. Assumes nothing.
use Prim.Native.Nat.{ℕ, ◌+◌}
use mathlib.Core.Bool.{Bool, true, false}
use mathlib.Core.List.{List, ◌∷◌, ◌++◌}
use mathlib.Core.Path.{◌≡◌, refl, sym, ◌∙◌}
use native.Mathlib.Numerals.{add-one}
use native.Mathlib.Omega.{arith}
use lib.IntN.{ℤ, pos, negsuc, nat_abs}
use lib.ListN.{length}
use lib.Signed.{non_neg}
use Rattle.rules.specs.Numbers.{digits_of}
use Rattle.rules.specs.Fields.{metres_text, altitude_text}
use Rattle.rules.specs.Writes.{put_at}
use Rattle.rules.specs.declared.Height.{Height}
use Rattle.rules.proofs.Texts.{metres_length}
use Rattle.byte_put.specs.Puts.{Fills}
use Rattle.byte_put.proofs.Laws.{put_then}

pub altitude_length : (h : Height) → length (altitude_text h) ≡ 5
unfolding altitude_text
altitude_length h = metres_length h.metres

pub altitude_then : (x l l₁ : List ℕ) (at : ℕ) (h : Height) (b : List ℕ) → l₁ ≡ put_at l at (altitude_text h) → Fills l₁ (at + 5) b x → Fills l at (altitude_text h ++ b) x
altitude_then x l l₁ at h b = put_then x l l₁ at (altitude_text h) b 5 (altitude_length h)

-- ---- an altitude's text by its sign and its size
plain_metres : (z : ℤ) → non_neg z ≡ true → metres_text z ≡ digits_of 5 (nat_abs z)
plain_metres (pos n) h = refl
plain_metres (negsuc n) h = let e : ◌≡◌ {A = ℕ} 0 1 = cc in absurd (omega arith)

minus_metres : (z : ℤ) → non_neg z ≡ false → metres_text z ≡ 45 ∷ digits_of 4 (nat_abs z)
minus_metres (pos n) h = let e : ◌≡◌ {A = ℕ} 0 1 = cc in absurd (omega arith)
minus_metres (negsuc n) h = rw add-one

-- r is what the test of the sign said, and m the size
module _ (x l : List ℕ) (at : ℕ) (h : Height) (r : Bool) (m : ℕ) (e : r ≡ non_neg h.metres) (f : m ≡ nat_abs h.metres) where
  pub plain_fills : r ≡ true → Fills l at (digits_of 5 m) x → Fills l at (altitude_text h) x
  unfolding altitude_text
  plain_fills g p = rw (plain_metres h.metres (sym e ∙ g), ← f) p

  pub minus_fills : r ≡ false → Fills l at (45 ∷ digits_of 4 m) x → Fills l at (altitude_text h) x
  unfolding altitude_text
  minus_fills g p = rw (minus_metres h.metres (sym e ∙ g), ← f) p
