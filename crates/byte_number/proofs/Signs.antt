-- A signed number made of an unsigned one, at any width. Assumes nothing.
use Prim.Native.Nat.{ℕ, zero, suc, ◌^◌, ◌<◌}
use mathlib.Core.Path.{◌≡◌}
use native.Mathlib.Omega.{arith}
use lib.IntN.{pos, neg_ℤ, ◌-ℤ◌, +ℤ_idl}
use mir.Syntax.{Width}
use mir.Val.{SFits, hbits, to_z, of_z}
use mir.ValLaws.{to_z_pos, to_z-of_z}

neg_fits : (w : Width) (v : ℕ) → v < 2 ^ hbits w → SFits w (neg_ℤ (pos v))
neg_fits w zero h = record { sfits = h }
neg_fits w (suc v) h = record { sfits = omega arith }

-- what the machine makes of `-(v as i32)`
module _ (w : Width) (v : ℕ) (h : v < 2 ^ hbits w) where
  neg_is : pos 0 -ℤ to_z w v ≡ neg_ℤ (pos v)
  neg_is = rw (to_z_pos w v h) (+ℤ_idl (neg_ℤ (pos v)))

  pub neg_stays : SFits w (pos 0 -ℤ to_z w v)
  neg_stays = rw neg_is (neg_fits w v h)

  pub neg_back : to_z w (of_z w (pos 0 -ℤ to_z w v)) ≡ neg_ℤ (pos v)
  neg_back = rw neg_is (to_z-of_z w _ (neg_fits w v h))
