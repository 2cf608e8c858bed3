-- What the programs say of a file by its name, and the promises of the functions that put it into a buffer: as much of the text as has room.
use Rattle.std.specs.Prelude.{ℕ, Bool, cond, List, ◌∷◌, ◌++◌, eqb, leb, length}
use Prim.Native.Char.{code}
use Rattle.rules.specs.Choice.{bytes, byte, part}
use Rattle.rules.specs.Listing.{shown, lf}
use Rattle.rules.specs.declared.Counts.{Counts}
use Rattle.rules.specs.declared.Flight.{Flight}
use Rattle.rules.specs.declared.Refusal.{Refusal}
use Rattle.text_pieces.specs.Buffer.{PiecePut}
use Rattle.text_dates.specs.Dates.{date_shown}
use Rattle.text_explain.specs.Explanation.{explanation}

-- An argument is handed out with no bytes where it has none, and where it has more than a path can have.
unfoldable pub name_shown : List ℕ → List ℕ
unfolding bytes
name_shown name = cond (eqb (length name) 0) (bytes "(no name, or one over 4,096 bytes)") name

-- ---- a file that is accepted: its date, its counts of lines, fixes, K lines and N lines, and whether a G line is there

-- a count behind its word
unfoldable pub counted : List ℕ → ℕ → List ℕ
counted word n = word ++ shown n

unfoldable pub extras_shown : Counts → List ℕ
unfolding bytes
extras_shown ns = counted (bytes ", K lines") ns.k ++ counted (bytes ", N lines") ns.n

unfoldable pub counts_shown : ℕ → Counts → List ℕ
unfolding bytes
counts_shown lines ns = counted (bytes ", lines") lines ++ (counted (bytes ", fixes") ns.b ++ extras_shown ns)

-- a file is signed where it has a G line
unfoldable pub signed_shown : Bool → List ℕ
unfolding bytes
signed_shown signed = cond signed (bytes ", signed" ++ lf) (bytes ", not signed" ++ lf)

unfoldable pub accepted_shown : Flight → List ℕ
unfolding bytes
accepted_shown f = bytes ": accepted, " ++ (date_shown f.date ++ (counts_shown f.lines f.counts ++ signed_shown f.signed))

-- ---- a file that is fit for a claim: its date, its recorder, its count of fixes, and whether a G line is there

-- "3 code characters for the maker, 3 for the serial": bytes 2 to 7 of line 1, which is where the file begins
unfoldable pub recorder_shown : List ℕ → List ℕ
unfolding bytes
recorder_shown file = cond (leb 7 (length file)) (bytes ", recorder " ++ part (byte 2) (byte 8) file) (bytes ", no recorder")

unfoldable pub flown_shown : ℕ → Bool → List ℕ
unfolding bytes
flown_shown fixes signed = counted (bytes ", fixes") fixes ++ signed_shown signed

unfoldable pub fit_shown : Flight → List ℕ → List ℕ
unfolding bytes
fit_shown f file = bytes ": " ++ (date_shown f.date ++ (recorder_shown file ++ flown_shown f.counts.b f.signed))

-- ---- the promises

abbrev pub HeadingPut : List ℕ → List ℕ → ℕ → List ℕ → Type 0
HeadingPut name out r after = PiecePut out 0 (bytes "== " ++ (name_shown name ++ lf)) r after

abbrev pub AcceptedPut : List ℕ → Flight → List ℕ → ℕ → List ℕ → Type 0
AcceptedPut name f out r after = PiecePut out 0 (name_shown name ++ accepted_shown f) r after

abbrev pub FitPut : List ℕ → Flight → List ℕ → List ℕ → ℕ → List ℕ → Type 0
FitPut name f file out r after = PiecePut out 0 (name_shown name ++ fit_shown f file) r after

-- a file that is refused, explained with the caret
abbrev pub RefusedPut : List ℕ → List ℕ → Refusal → List ℕ → ℕ → List ℕ → Type 0
RefusedPut name file why out r after = PiecePut out 0 (name_shown name ++ (bytes ": " ++ explanation file why)) r after

abbrev pub FailedPut : List ℕ → List ℕ → List ℕ → ℕ → List ℕ → Type 0
FailedPut name why out r after = PiecePut out 0 (name_shown name ++ (bytes ": " ++ why)) r after

-- the names of two files
abbrev pub BothPut : List ℕ → List ℕ → List ℕ → ℕ → List ℕ → Type 0
BothPut first second out r after = PiecePut out 0 (name_shown first ++ (bytes " and " ++ name_shown second)) r after

-- the name as it is, with `.new` at its end
abbrev pub BesidePut : List ℕ → List ℕ → ℕ → List ℕ → Type 0
BesidePut name out r after = PiecePut out 0 (name ++ bytes ".new") r after

-- a file's notes, counted
abbrev pub NotedPut : List ℕ → ℕ → List ℕ → ℕ → List ℕ → Type 0
NotedPut name notes out r after = PiecePut out 0 (name_shown name ++ (bytes ": notes" ++ (shown notes ++ lf))) r after

-- a text of a file, and at the end of its line the file's name, in which there may be spaces
abbrev pub TabledPut : List ℕ → List ℕ → List ℕ → ℕ → List ℕ → Type 0
TabledPut text name out r after = PiecePut out 0 (text ++ (code " " ∷ (name_shown name ++ lf))) r after
