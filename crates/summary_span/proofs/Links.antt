-- A test on two figures, as the machine reads their numbers back, tells which is higher and which is lower. Assumes nothing.
use mathlib.Core.Bool.{true, false}
use mathlib.Core.Path.{◌≡◌}
use lib.IntN.{ℤ}
use lib.Signed.{lt_z}
use Rattle.summary_span.specs.Sums.{higher_of, lower_of}
use Rattle.summary_span.specs.declared.Figure.{Figure}

module _ (a b : Figure) (x y : ℤ) where
  pub higher_second : lt_z x y ≡ true → x ≡ a.value → y ≡ b.value → b ≡ higher_of a b
  unfolding higher_of
  higher_second t e f = rw (← e, ← f, t)

  pub higher_first : lt_z x y ≡ false → x ≡ a.value → y ≡ b.value → a ≡ higher_of a b
  unfolding higher_of
  higher_first t e f = rw (← e, ← f, t)

  pub lower_second : lt_z y x ≡ true → x ≡ a.value → y ≡ b.value → b ≡ lower_of a b
  unfolding lower_of
  lower_second t e f = rw (← e, ← f, t)

  pub lower_first : lt_z y x ≡ false → x ≡ a.value → y ≡ b.value → a ≡ lower_of a b
  unfolding lower_of
  lower_first t e f = rw (← e, ← f, t)
