-- Document 01, 'Lines': the characters of a line; 'Fields': digits and code characters.
use Rattle.std.specs.Prelude.{ℕ, ◌+◌, Bool, not, ◌&&◌, ◌||◌, List, eqb, leb, drop, Option}
use Prim.Native.Char.{code}
use Rattle.rules.specs.Choice.{first_of, leads, given}
use Rattle.rules.specs.Refusals.{Said, says, no}
use Rattle.rules.specs.declared.Reason.TheVariants.{Character}

-- "Valid characters (000, A6): hex 20 to 7D without 21, 24, 2A, 5C, 5E." "Comma (2C) .. is valid in H lines only (h)."
unfoldable pub is_valid : Bool → ℕ → Bool
is_valid in_h b =
    leb 0x20 b && leb b 0x7D
    && not (eqb b 0x21) && not (eqb b 0x24) && not (eqb b 0x2A) && not (eqb b 0x5C) && not (eqb b 0x5E)
    && (in_h || not (eqb b 0x2C))

-- how many bytes stand before the first invalid one
unfoldable pub first_invalid : Bool → List ℕ → Option ℕ
first_invalid in_h l = first_of (λ b. not (is_valid in_h b)) (λ i b. i) l 0

-- "8 CHARACTER: first invalid one; line, its byte"
unfoldable pub characters : Bool → List ℕ → Said (Unit {0})
characters in_h l = given (first_invalid in_h l) (says tt) λ i. no Character (i + 1)

-- "Digit fields hold 0 to 9 only."
unfoldable pub is_digit : ℕ → Bool
is_digit b = leb (code "0") b && leb b (code "9")

-- "'Code' characters are A to Z and 0 to 9."
unfoldable pub is_code : ℕ → Bool
is_code b = is_digit b || (leb (code "A") b && leb b (code "Z"))

-- n code characters stand at a place
unfoldable pub codes_at : List ℕ → ℕ → ℕ → Bool
codes_at l at n = leads is_code n (drop at l)
