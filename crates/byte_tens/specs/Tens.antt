-- Ten for each extra decimal: document 02, request 9, "ten for each digit", "up to 4, 4 and 3".
use Rattle.std.specs.Prelude.{ℕ, ◌^◌, cond, ◌≡◌, leb}

-- so many decimals, and 4 for more
unfoldable pub few_of : ℕ → ℕ
few_of n = cond (leb n 4) n 4

-- ten for each of them
unfoldable pub power_of : ℕ → ℕ
power_of n = 10 ^ few_of n

abbrev pub FewGiven : ℕ → ℕ → Type 0
FewGiven n r = r ≡ few_of n

abbrev pub PowerGiven : ℕ → ℕ → Type 0
PowerGiven n r = r ≡ power_of n
