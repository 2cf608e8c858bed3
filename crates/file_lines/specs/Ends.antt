-- Where the first CR LF stands and where a line ends; and a refusal with no place.
use Rattle.std.specs.Prelude.{ℕ, ◌+◌, ◌≤◌, ◌<◌, Bool, true, not, ◌&&◌, List, ◌≡◌, eqb, length, get_or, drop, Option}
use Rattle.rules.specs.Split.{Lines, end, broken, line, lines_of, first_crlf}
use Rattle.rules.specs.declared.Reason.{Reason}
use Rattle.rules.specs.declared.Refusal.{Refusal}
use Rattle.file_lines.specs.declared.scan.Ended.{Ended}
use Rattle.file_lines.specs.declared.scan.Ended.TheVariants as ended

-- a refusal with no line and no byte: "0, 0"
abbrev pub unplaced : Reason → Refusal
unplaced reason = record { reason = reason; line = 0; byte = 0 }

abbrev pub UnplacedGiven : Reason → Refusal → Type 0
UnplacedGiven reason r = r ≡ unplaced reason

-- how the first of the lines ends, behind `from` bytes and its own text
unfoldable pub ended_at : ℕ → Lines → Ended
ended_at from end = ended.Broken from
ended_at from (broken n) = ended.Broken (from + n)
ended_at from (line t ls) = ended.At (from + length t)

-- how the line behind `from` bytes ends
abbrev pub LineEnded : List ℕ → ℕ → Ended → Type 0
LineEnded file from r = r ≡ ended_at from (lines_of (drop from file))

-- how many bytes stand before the first CR LF from a place on
abbrev pub FirstFound : List ℕ → ℕ → Option ℕ → Type 0
FirstFound file at r = r ≡ first_crlf at (drop at file)

-- a byte that is neither CR nor LF
unfoldable pub is_inside : ℕ → Bool
is_inside b = not (eqb b 13) && not (eqb b 10)

-- none of the bytes is CR or LF
abbrev pub InsideTold : List ℕ → Bool → Type 0
InsideTold l r = r ≡ true → (i : ℕ) → i < length l → is_inside (get_or l i 0) ≡ true

-- behind r bytes the line ends as it does behind `from`
abbrev pub EndedAlike : List ℕ → ℕ → ℕ → Type 0
EndedAlike file from r = (r ≤ length file) × (ended_at r (lines_of (drop r file)) ≡ ended_at from (lines_of (drop from file)))
