-- The promises of the lines that the listing prints, each put into a lent buffer.
use Rattle.std.specs.Prelude.{ℕ, ◌+◌, List, [], ◌∷◌, ◌++◌, leb, ℤ, pos, negsuc}
use Prim.Native.Char.{code}
pub use Rattle.text_pieces.specs.Buffer.{Shown}
use Rattle.rules.specs.Choice.{need, bytes}
use Rattle.rules.specs.Refusals.{number}
use Rattle.rules.specs.Listing.{decimal, shown, shown_letter, shown_metres, lf, refused_text, ok_text, fix_shown, column_shown}
use Rattle.rules.specs.declared.Refusal.{Refusal}
use Rattle.rules.specs.declared.Counts.{Counts}
use Rattle.rules.specs.declared.Entry.{Entry}
use Rattle.rules.specs.declared.Position.{Position}
use Rattle.rules.specs.declared.FixFields.{FixFields}
use Rattle.rules.specs.declared.Flight.{Flight}

abbrev pub RefusalShown : Refusal → List ℕ → ℕ → List ℕ → Type 0
RefusalShown w out r after = Shown (refused_text (number w.reason) w.line w.byte) out r after

abbrev pub FlightShown : Flight → List ℕ → ℕ → List ℕ → Type 0
FlightShown f out r after = Shown (ok_text f) out r after

abbrev pub FixShown : ℕ → FixFields → List ℕ → ℕ → List ℕ → Type 0
FixShown n f out r after = Shown (fix_shown n f) out r after

-- An entry whose code is no three bytes, which no layout has that was read, shows nothing.
unfoldable pub column_line : List ℕ → Entry → List ℕ
column_line l e = need (leb e.code 0xFFFFFF) [] λ _. column_shown l e

abbrev pub ColumnShown : List ℕ → Entry → List ℕ → ℕ → List ℕ → Type 0
ColumnShown l e out r after = Shown (column_line l e) out r after

-- ---- the parts that the longer lines are put together from

-- a word and three numbers, with which a line begins
unfoldable pub counted : List ℕ → ℕ → ℕ → ℕ → List ℕ
counted word a b c = word ++ (shown a ++ (shown b ++ shown c))

unfoldable pub two_shown : ℕ → ℕ → List ℕ
two_shown a b = shown a ++ shown b

-- an OK line of its numbers: the lines, the counts and the lengths of B, K and N lines
unfoldable pub ok_numbers : ℕ → Counts → ℕ → ℕ → ℕ → List ℕ
unfolding bytes
ok_numbers l ns b k n = counted (bytes "OK") l ns.b ns.k ++ (two_shown b k ++ (two_shown ns.n n ++ lf))

unfoldable pub position_shown : Position → List ℕ
position_shown p = shown p.count ++ shown_letter p.letter

-- a FIX line up to its position, and from its validity on
unfoldable pub fix_places : ℕ → FixFields → List ℕ
unfolding bytes
fix_places n f = bytes "FIX" ++ (shown n ++ (shown f.time ++ (position_shown f.lat ++ position_shown f.lon)))

unfoldable pub heights_line : ℕ → ℤ → ℤ → List ℕ
heights_line validity pressure gnss = shown_letter validity ++ (shown_metres pressure ++ (shown_metres gnss ++ lf))

unfoldable pub fix_heights : FixFields → List ℕ
fix_heights f = shown_letter f.validity ++ (shown_metres f.pressure.metres ++ (shown_metres f.gnss.metres ++ lf))

-- behind a mark, whole metres
abbrev pub metres_behind : ℕ → ℤ → List ℕ
metres_behind mark (pos n) = mark ∷ decimal n
metres_behind mark (negsuc n) = mark ∷ code "-" ∷ decimal (n + 1)
