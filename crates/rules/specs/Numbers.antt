-- Document 01, 'Fields' and 'I and J layouts': digits as a number, and a column as a whole number. The digits of a number.
use Rattle.std.specs.Prelude.{ℕ, zero, suc, ◌+◌, ◌-◌, ◌*◌, ◌/◌, ◌%◌, cond, List, [], ◌∷◌, ◌++◌, eqb, leb, pos, neg_ℤ, length, get_or, drop, None, Option, Some}
use Prim.Native.Char.{code}
use Rattle.rules.specs.Choice.{given, need, on}
use Rattle.rules.specs.Chars.{is_digit}
use Rattle.rules.specs.declared.Signed.{Signed}

-- v, and then the n digits at the front of l; nothing where l is shorter or another byte stands there
unfoldable pub spell : ℕ → ℕ → List ℕ → Option ℕ
spell zero v l = Some v
spell (suc n) v [] = None
spell (suc n) v (b ∷ l) = cond (is_digit b) (spell n (v * 10 + (b - 48)) l) None

-- "Digit fields hold 0 to 9 only": the number that n digits at a place spell, 18 at most
unfoldable pub number_at : List ℕ → ℕ → ℕ → Option ℕ
number_at s at n = need (leb n 18) None λ _. spell n 0 (drop at s)

-- "as a whole number where it is 1 to 18 digits, with or without a minus before them"
unfoldable pub whole_of : List ℕ → Option Signed
whole_of t =
    on (get_or t 0 0) λ b.
    cond (eqb b (code "-"))
    (need (leb 2 (length t)) None λ _. given (number_at t 1 (length t - 1)) None λ v. Some (record { value = neg_ℤ (pos v) }))
    (need (leb 1 (length t)) None λ _. given (number_at t 0 (length t)) None λ v. Some (record { value = pos v }))

-- the last n decimal digits of v
unfoldable pub digits_of : ℕ → ℕ → List ℕ
digits_of zero v = []
digits_of (suc n) v = digits_of n (v / 10) ++ ((48 + v % 10) ∷ [])

-- three numbers of two digits each, as a time and a date have them
abbrev pub pairs_text : ℕ → ℕ → ℕ → List ℕ
pairs_text a b c = digits_of 2 a ++ (digits_of 2 b ++ digits_of 2 c)

-- the answers, in the paper's terms
