-- A field both ways, whatever field it is: what `Trip` asks of a reader and a text, and what follows from it. Assumes nothing.
use Rattle.std.specs.Prelude.{Option, Some}
use Prim.Native.Nat.{ℕ, ◌+◌, ◌≤◌, ◌<◌}
use mathlib.Core.Bool.{Bool, true}
use mathlib.Core.List.{List, [], ◌++◌, append-nil}
use mathlib.Core.Path.{◌≡◌, refl, sym, ap}
use mathlib.Core.Logic.{◌↔◌}
use native.Mathlib.Omega.{arith}
use lib.ListN.{length, drop, length-append, length-drop}
use Rattle.rules_trips.proofs.Texts.{are_valid}

-- `read` finds a value exactly where the value's text stands, `width` bytes of valid characters, and the value is within its limits.
pub record Trip {A : Type 0} (read : List ℕ → ℕ → Option A) (text : A → List ℕ) (width : ℕ) (within : A → Bool) : Type 0 where
  pub long : (v : A) → length (text v) ≡ width
  pub clean : (v : A) → within v ≡ true → are_valid (text v) ≡ true
  pub there : (s : List ℕ) (at to : ℕ) (v : A) → at + width ≡ to → read s at ≡ Some v → drop at s ≡ text v ++ drop to s
  pub limits : (s : List ℕ) (at : ℕ) (v : A) → read s at ≡ Some v → within v ≡ true
  pub here : (s : List ℕ) (at : ℕ) (v : A) (r : List ℕ) → within v ≡ true → drop at s ≡ text v ++ r → read s at ≡ Some v

module _ {A : Type 0} {read : List ℕ → ℕ → Option A} {text : A → List ℕ} {width : ℕ} {within : A → Bool} (trip : Trip read text width within) where
  -- the whole field stands there
  pub reaches : (s : List ℕ) (at : ℕ) (v : A) → 0 < width → read s at ≡ Some v → at + width ≤ length s
  reaches s at v p e =
      let n = ap length (trip.there s at (at + width) v refl e) in
      omega (arith, length-drop at s, simp (length-append, trip.long v) at n)

  -- a value is within its limits exactly when its own text reads as it
  pub exactly : (v : A) → (read (text v) 0 ≡ Some v) ↔ (within v ≡ true)
  exactly v = (trip.limits (text v) 0 v, λ h. trip.here (text v) 0 v [] h (sym (append-nil (text v))))
