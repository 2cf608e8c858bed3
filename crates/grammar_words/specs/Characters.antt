-- Document 01, 'Lines' and 'Fields': which characters are valid, and which are digits and code characters.
use Rattle.std.specs.Prelude.{ℕ, ◌≤◌, Bool, true, List, [], ◌∷◌, ◌++◌, ◌⊎◌, ◌≡◌, length, drop}
use Prim.Native.Char.{code}
use Rattle.rules.specs.Choice.{Each}

-- "Valid characters (000, A6): hex 20 to 7D without 21, 24, 2A, 5C, 5E. Comma (2C) .. is valid in H lines only (h)."
pub record IsValid (in_h : Bool) (b : ℕ) : Type 0 where
  pub from : 0x20 ≤ b
  pub to : b ≤ 0x7D
  pub without : Each (λ x. b ≡ x → ⊥) (0x21 ∷ 0x24 ∷ 0x2A ∷ 0x5C ∷ 0x5E ∷ [])
  pub comma : b ≡ 0x2C → in_h ≡ true

-- "Digit fields hold 0 to 9 only."
abbrev pub IsDigit : ℕ → Type 0
IsDigit b = (code "0" ≤ b) × (b ≤ code "9")

-- "'Code' characters are A to Z and 0 to 9."
abbrev pub IsCode : ℕ → Type 0
IsCode b = ((code "A" ≤ b) × (b ≤ code "Z")) ⊎ IsDigit b

-- n code characters stand behind `at` bytes of the line
pub record CodesAt (l : List ℕ) (at n : ℕ) : Type 0 where
  pub text : List ℕ
  pub rest : List ℕ
  pub bytes : drop at l ≡ text ++ rest
  pub count : length text ≡ n
  pub each : Each IsCode text
