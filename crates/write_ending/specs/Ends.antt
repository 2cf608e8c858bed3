-- The promises of how a line that is written ends, and of how a writer refuses.
use Rattle.rules.specs.declared.Refusal.{Refusal}
use Rattle.std.specs.Prelude.{ℕ, List, ◌++◌, ◌≡◌, Result}
use Rattle.rules.specs.Refusals.{no, result_told}
use Rattle.rules.specs.Writes.{crlf, put_at}
use Rattle.rules.specs.declared.Reason.{Reason}

-- a line's last text and its CR LF, put at a place
abbrev pub LineClosed : List ℕ → ℕ → List ℕ → List ℕ → Type 0
LineClosed rest at out after = after ≡ put_at out at (rest ++ crlf)

-- a refusal, at line 0 and byte 0
abbrev pub WriteRefused : Reason → Result ℕ Refusal → Type 0
WriteRefused reason r = result_told r ≡ no reason 0
