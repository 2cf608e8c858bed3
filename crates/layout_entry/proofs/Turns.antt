-- One turn of a loop over a list of codes: what stands at the place i decides, or what is behind it does. Assumes nothing.
use Prim.Native.Nat.{ℕ, ◌+◌, ◌≤◌, ◌<◌}
use mathlib.Core.Bool.{true, false}
use mathlib.Core.List.{List}
use mathlib.Core.Path.{◌≡◌, ◌∙◌, ap}
use native.Mathlib.Omega.{arith}
use borrow.Author.Tests.{eq-eqb, ne_eqb}
use lib.Dec.{eqb}
use lib.ListN.{length, get_or, drop, take, length-take}
use lib.Seq.{get_or-take}
use Rattle.rules.specs.Choice.{given, first_of}
use Rattle.byte_chars.proofs.Laws.{hit, miss, past}

-- the first of n codes that is x
module _ (codes : List ℕ) (n x i : ℕ) where
  among : i < length codes → i < n → i < length (take n codes)
  among h k = simp length-take (omega arith)

  pub code_hit : i < length codes → i < n → get_or codes i 0 ≡ x → given (first_of (λ (y : ℕ). eqb y x) (λ (k : ℕ) (y : ℕ). k) (drop i (take n codes)) i) false (λ k. true) ≡ true
  code_hit h k e =
      ap (λ o. given o false (λ k. true))
      (hit (λ (y : ℕ). eqb y x) (λ (k : ℕ) (y : ℕ). k) (take n codes) 0 i i (among h k) (ap (λ y. eqb y x) (get_or-take n codes i 0 k) ∙ eq-eqb _ _ e))

  pub code_miss : i < length codes → i < n → (get_or codes i 0 ≡ x → ⊥)
      → given (first_of (λ (y : ℕ). eqb y x) (λ (k : ℕ) (y : ℕ). k) (drop i (take n codes)) i) false (λ k. true)
      ≡ given (first_of (λ (y : ℕ). eqb y x) (λ (k : ℕ) (y : ℕ). k) (drop (i + 1) (take n codes)) (i + 1)) false (λ k. true)
  code_miss h k e =
      ap (λ o. given o false (λ k. true))
      (miss (λ (y : ℕ). eqb y x) (λ (k : ℕ) (y : ℕ). k) (take n codes) 0 i i (among h k) (ap (λ y. eqb y x) (get_or-take n codes i 0 k) ∙ ne_eqb _ _ e))

  pub code_past : n ≤ i → given (first_of (λ (y : ℕ). eqb y x) (λ (k : ℕ) (y : ℕ). k) (drop i (take n codes)) i) false (λ k. true) ≡ false
  code_past k = ap (λ o. given o false (λ k. true)) (past (λ (y : ℕ). eqb y x) (λ (k : ℕ) (y : ℕ). k) (take n codes) 0 i i (simp length-take (omega arith)))

  pub code_end : length codes ≤ i → given (first_of (λ (y : ℕ). eqb y x) (λ (k : ℕ) (y : ℕ). k) (drop i (take n codes)) i) false (λ k. true) ≡ false
  code_end k = ap (λ o. given o false (λ k. true)) (past (λ (y : ℕ). eqb y x) (λ (k : ℕ) (y : ℕ). k) (take n codes) 0 i i (simp length-take (omega arith)))
