-- `byte_chars::first_invalid_by` meets its contract: what is left of the line decides as the whole line does. Assumes nothing.
use Rattle.std.proofs.Common.{◌≡◌, Bool, not, ℕ, drop}
use Rattle.rules.specs.Choice.{first_of}
use Rattle.rules.specs.Chars.{is_valid, first_invalid}
use Rattle.byte_chars.proofs.first_invalid_by.Given as goal

abbrev pub fails : Bool → ℕ → Bool
fails in_h b = not (is_valid in_h b)

abbrev pub place : ℕ → ℕ → ℕ
place i b = i

abbrev pub invariant-loop-i : goal.invariant-loop-i
invariant-loop-i l = first_of (fails l.in_h) place (drop l.i l.line) l.i ≡ first_invalid l.in_h l.line
