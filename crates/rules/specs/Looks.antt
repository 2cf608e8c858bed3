-- Document 02, request 8: "Asking for a single column becomes a look into that answer." What the look says of any line and any entries; it does not check the line again.
use Rattle.std.specs.Prelude.{ℕ, Bool, true, false, not, ◌&&◌, ◌||◌, List, [], ◌∷◌, leb, length}
use Rattle.rules.specs.Choice.{given, need, first_of}
use Rattle.rules.specs.Refusals.{Said, says, refuses, no, and_then}
use Rattle.rules.specs.Numbers.{whole_of}
use Rattle.rules.specs.Listed.{packed_of}
use Rattle.rules.specs.declared.Span.{Span}
use Rattle.rules.specs.Layouts.{entries_of, look_in, look, column_text}
use Rattle.rules.specs.declared.Reason.TheVariants.{BadValue, Absent, NotNumber}
use Rattle.rules.specs.declared.Entry.{Entry}
use Rattle.rules.specs.declared.Layout.{Layout}
use Rattle.rules.specs.declared.Signed.{Signed}

-- an entry of this code is among the entries
abbrev pub carried_in : List Entry → ℕ → Bool
carried_in es x = given (look_in es x) false λ s. true

-- "a code twice": an entry whose code comes again behind it
unfoldable pub twice : List Entry → Bool
twice [] = false
twice (e ∷ es) = carried_in es e.code || twice es

-- "an entry not inside the line lent with it or with its last byte before its first": bytes count from 1, and n is the line's last
unfoldable pub is_inside : ℕ → Entry → Bool
is_inside n e = leb 1 e.first && leb e.first e.last && leb e.last n

-- there is no such entry
unfoldable pub are_inside : ℕ → List Entry → Bool
are_inside n es = given (first_of (λ e. not (is_inside n e)) (λ k e. k) es 0) true λ k. false

-- "the look gives 17 for an answer with over 13 entries, a code twice or an entry not inside the line lent with it or with its last byte before its first"
unfoldable pub fits_line : List ℕ → Layout → Bool
fits_line l es = leb es.count 13 && not (twice (entries_of es)) && are_inside (length l) (entries_of es)

-- "A column is read by its code as text": the places of its first and last byte; "then 19"
unfoldable pub look_said : List ℕ → Layout → List ℕ → Said Span
look_said l es name =
    need (fits_line l es) (no BadValue 0) λ _.
    given (look es (packed_of name)) (no Absent 0) λ s.
    says s

-- its text; none where refused
unfoldable pub look_text : List ℕ → Said Span → List ℕ
look_text l (says s) = column_text l s
look_text l (refuses n k b) = []

-- "and as a whole number where it is 1 to 18 digits, with or without a minus before them"; "20"
unfoldable pub look_number : List ℕ → Layout → List ℕ → Said Signed
look_number l es name =
    and_then (look_said l es name) λ s.
    given (whole_of (column_text l s)) (no NotNumber 0) λ z.
    says z
