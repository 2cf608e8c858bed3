-- Document 02, CR 5: one number for each byte, and what a table of them must say.
use Rattle.std.specs.Prelude.{ℕ, ◌<◌, Bool, true, false, cond, List, ◌≡◌, length, get_or, None}
use Rattle.rules.specs.Chars.{is_valid, first_invalid}

-- "0 never valid, 1 valid, 2 the comma, valid in H lines only"
unfoldable pub class_of : ℕ → ℕ
class_of b = cond (is_valid false b) 1 (cond (is_valid true b) 2 0)

-- "one table of 256 numbers, one for each byte"
pub record Agrees (table : List ℕ) : Type 0 where
  pub size : length table ≡ 256
  pub each : (b : ℕ) → b < 256 → get_or table b 0 ≡ class_of b

-- a line of which it is told that each byte may stand in every line has no invalid one, in H lines or in others
abbrev pub TextTold : List ℕ → Bool → Type 0
TextTold l r = r ≡ true → (in_h : Bool) → first_invalid in_h l ≡ None
