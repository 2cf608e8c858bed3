-- What a person reads of a refusal, by document 01's table of 'Refusal numbers': a line with its number and name, the line and the byte, and when the number is given;
-- the text of that line; a caret under the byte.
use Rattle.std.specs.Prelude.{ℕ, ◌+◌, cond, List, [], ◌∷◌, ◌++◌, eqb}
use Prim.Native.Char.{code}
use Rattle.text_pieces.specs.Buffer.{Shown}
use Rattle.text_quote.specs.Quote.{before, quote}
use Rattle.text_refusal.specs.Table.{name, meaning}
use Rattle.rules.specs.Choice.{bytes}
use Rattle.rules.specs.Listing.{shown, lf}
use Rattle.rules.specs.Refusals.{number}
use Rattle.rules.specs.declared.Reason.{Reason}
use Rattle.rules.specs.declared.Refusal.{Refusal}
use Rattle.text_faulty.specs.Faulty.{text_of}

-- ---- the first line

-- REFUSED, the number and its name
unfoldable pub called : Reason → List ℕ
unfolding bytes
called reason = bytes "REFUSED" ++ (shown (number reason) ++ (code " " ∷ name reason))

-- a number behind its word; 0 stands for none, and is not shown
unfoldable pub counted : List ℕ → ℕ → List ℕ
counted word n = cond (eqb n 0) [] (word ++ shown n)

unfoldable pub placed : ℕ → ℕ → List ℕ
unfolding bytes
placed l b = counted (bytes ", line") l ++ counted (bytes ", byte") b

-- where the text shown does not begin with the line's first byte, the byte that it begins with
unfoldable pub begun : ℕ → List ℕ
unfolding bytes
begun b = cond (eqb (before b) 0) [] (bytes " (text from byte" ++ (shown (before b + 1) ++ bytes ")"))

unfoldable pub meant : Reason → ℕ → List ℕ
unfolding bytes
meant reason b = bytes ": " ++ (meaning reason ++ (begun b ++ lf))

unfoldable pub head : Refusal → List ℕ
head w = called w.reason ++ (placed w.line w.byte ++ meant w.reason w.byte)

-- ---- the whole

-- The line's text stands below where the refusal names a line.
unfoldable pub explanation : List ℕ → Refusal → List ℕ
explanation file w = head w ++ cond (eqb w.line 0) [] (quote w.byte (text_of file w.line))

abbrev pub RefusalExplained : List ℕ → Refusal → List ℕ → ℕ → List ℕ → Type 0
RefusalExplained file w out r after = Shown (explanation file w) out r after
