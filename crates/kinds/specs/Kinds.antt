-- The kinds of the lines of a whole file, a byte for each: what is said of them, the list afterwards, and the promise.
use Rattle.rules.specs.declared.Refusal.{Refusal}
use Rattle.std.specs.Prelude.{ℕ, Bool, true, false, not, ◌&&◌, ◌||◌, cond, List, [], ◌∷◌, ◌++◌, ◌≡◌, eqb, leb, length, get_or, drop, None, Result}
use Prim.Native.Char.{code}
use Rattle.rules.specs.Choice.{need}
use Rattle.rules.specs.Files.{verdict, over}
use Rattle.rules.specs.Refusals.{Said, says, refuses, no, refusal, and_then, result_told}
use Rattle.rules.specs.Split.{Lines, end, broken, line, lines_of}
use Rattle.rules.specs.declared.Flight.{Flight}
use Rattle.rules.specs.declared.Reason.TheVariants.{NoRoom}
use Rattle.rules.specs.declared.Seal.{Seal}
use Rattle.rules.specs.declared.Seal.TheVariants as seal
use Rattle.notes_rules.specs.Notes.{is_seal, sealed}

-- the usual check
abbrev pub kinds_seal : Seal
kinds_seal = seal.Usual

-- ---- the bytes

-- the letter of a line, its first byte
abbrev pub letter_of : List ℕ → ℕ
letter_of t = get_or t 0 0

-- the byte of a note
abbrev pub note_mark : ℕ
note_mark = code "l"

-- the byte of a line, where a G line came before it or none did, and where one comes after it or none does: an L line behind the last G line is a note, every other line has its letter
abbrev pub kind_by : (before later : Bool) → List ℕ → ℕ
kind_by before later t = cond (eqb (letter_of t) (code "L") && before && not later) note_mark (letter_of t)

-- the bytes of lines, where a G line came before them or none did
unfoldable pub kinds_behind : Bool → Lines → List ℕ
kinds_behind before end = []
kinds_behind before (broken n) = []
kinds_behind before (line t ls) = kind_by before (sealed ls) t ∷ kinds_behind (before || is_seal t) ls

-- the bytes of all lines
abbrev pub kinds_of : Lines → List ℕ
kinds_of k = kinds_behind false k

-- ---- what is said

-- how many lines there are; 18 where a list of `room` bytes has fewer
unfoldable pub kinds_in : Flight → ℕ → Said ℕ
kinds_in f room = need (leb f.lines room) (no NoRoom 0) λ _. says f.lines

-- the file's own refusal first
unfoldable pub kinds_said : List ℕ → ℕ → Said ℕ
kinds_said file room = and_then (verdict kinds_seal file None) λ f. kinds_in f room

-- the bytes that are stored; none where refused
abbrev pub bytes_in : List ℕ → Said ℕ → List ℕ
bytes_in file (says n) = kinds_of (lines_of file)
bytes_in file (refuses n l b) = []

abbrev pub kinds_after : List ℕ → List ℕ → List ℕ
kinds_after file list = over (bytes_in file (kinds_said file (length list))) list

-- ---- the promises

-- the answer, in the paper's terms

-- the answer and the list afterwards, by what is said
pub record KindsTold (file : List ℕ) (s : Said ℕ) (list : List ℕ) (r : Result ℕ Refusal) (after : List ℕ) : Type 0 where
  pub told : result_told r ≡ s
  pub bytes : after ≡ over (bytes_in file s) list

abbrev pub FileKinded : List ℕ → List ℕ → Result ℕ Refusal → List ℕ → Type 0
FileKinded file list r after = KindsTold file (kinds_said file (length list)) list r after
