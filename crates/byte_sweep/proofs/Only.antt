-- One answer at most meets each promise of this crate. Assumes nothing.
use Prim.Native.Nat.{ℕ}
use mathlib.Core.Bool.{Bool}
use mathlib.Core.List.{List}
use Rattle.rules_only.proofs.Only.{Only, same}
use Rattle.byte_sweep.specs.Plain.{PlainTest, MildTest, DigitsTest, SignTest, ZerosTest}

pub only_plain_test : (l : List ℕ) → Only (PlainTest l)
only_plain_test l = same

pub only_mild_test : (l : List ℕ) (from : ℕ) → Only (MildTest l from)
only_mild_test l from = same

pub only_digits_test : (l : List ℕ) (from : ℕ) → Only (DigitsTest l from)
only_digits_test l from = same

pub only_sign_test : (sign : Bool) (l : List ℕ) → Only (SignTest sign l)
only_sign_test sign l = same

pub only_zeros_test : (l : List ℕ) → Only (ZerosTest l)
only_zeros_test l = same
