-- Bytes that are valid in every line and neither CR nor LF, told by few tests; and the promises of the tests of a whole text.
use Rattle.std.specs.Prelude.{ℕ, ◌-◌, Bool, ◌&&◌, ◌||◌, List, ◌≡◌, eqb, leb, length, drop}
use Prim.Native.Char.{code}
use Rattle.rules.specs.Choice.{leads}
use Rattle.rules.specs.Listed.{is_digits, keeps_sign, is_zeros}

-- from the minus to the opening bracket: digits and capitals are among them, and all are valid
unfoldable pub is_plain : ℕ → Bool
is_plain b = leb 45 b && leb b 91

-- the space, the closing bracket, and from the low line to the closing brace too: the small letters are among these
unfoldable pub is_mild : ℕ → Bool
is_mild b = eqb b 32 || eqb b 93 || is_plain b || (leb 95 b && leb b 125)

-- the digit zero
abbrev pub is_zero : ℕ → Bool
is_zero b = eqb b (code "0")

-- every element passes the test
abbrev pub every : (ℕ → Bool) → List ℕ → Bool
every test l = leads test (length l) l

-- every element from a place on passes it
abbrev pub every_from : (ℕ → Bool) → ℕ → List ℕ → Bool
every_from test from l = leads test (length l - from) (drop from l)

abbrev pub PlainTest : List ℕ → Bool → Type 0
PlainTest l r = r ≡ every is_plain l

abbrev pub MildTest : List ℕ → ℕ → Bool → Type 0
MildTest l from r = r ≡ every is_mild (drop from l)

abbrev pub DigitsTest : List ℕ → ℕ → Bool → Type 0
DigitsTest l from r = r ≡ is_digits (drop from l)

abbrev pub SignTest : Bool → List ℕ → Bool → Type 0
SignTest sign l r = r ≡ keeps_sign sign l

abbrev pub ZerosTest : List ℕ → Bool → Type 0
ZerosTest l r = r ≡ is_zeros l
