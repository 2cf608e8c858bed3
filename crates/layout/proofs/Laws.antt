-- Laws that the proofs share: what the code found of a character or an entry, to what the definitions say of it. Assumes nothing.
use Rattle.std.specs.Prelude.{Err, Ok, Result}
use Prim.Native.Nat.{ℕ, ◌<◌}
use Rattle.std.specs.Result.{is_ok}
use mathlib.Core.Bool.{false}
use mathlib.Core.Path.{◌≡◌, sym}
use native.Mathlib.Omega.{arith}
use borrow.Author.Tests.{le-leb, lt-leb}
use Rattle.rules.specs.Refusals.{Said, result_told}
use Rattle.rules.specs.Chars.{is_digit, is_code}
use Rattle.rules.specs.Layouts.{is_said}
use Rattle.rules.specs.declared.Refusal.{Refusal}
use Rattle.rules.specs.declared.Entry.{Entry}
use Rattle.rules.proofs.Links.{given_some, given_none}

-- no character is past 255
pub not_code : (n : ℕ) → 255 < n → false ≡ is_code n
unfolding is_code is_digit
not_code n h = sym (simp (le-leb 48 n (omega arith), lt-leb n 57 (omega arith), le-leb 65 n (omega arith), lt-leb n 90 (omega arith)))

pub ruleset links = (given_some, given_none)

pub said_ok : (n : Said Entry) (r : Result Entry Refusal) → result_told r ≡ n → is_ok r ≡ is_said n
unfolding result_told
said_ok n (Ok e) h = rw (← h)
said_ok n (Err w) h = rw (← h)
