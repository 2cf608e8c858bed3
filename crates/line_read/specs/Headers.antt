-- An H line taken apart: what it says, what is refused, and the promise of its reader.
use Rattle.std.specs.Prelude.{ℕ, ◌-◌, List, ◌≡◌, Result, length, get_or}
use Prim.Native.Char.{code}
use Rattle.rules.specs.Choice.{byte}
use Rattle.rules.specs.Lines.{h_line}
use Rattle.rules.specs.Reads.{of_kind}
use Rattle.rules.specs.Refusals.{Said, says, and_then, result_told}
use Rattle.line_read.specs.declared.headers.HeaderLine.{HeaderLine}
use Rattle.rules.specs.declared.Refusal.{Refusal}

-- byte 2 is the source, bytes 3 to 5 are the code, and the text is all that stands from byte 6 on
abbrev pub header_in : List ℕ → HeaderLine
header_in l =
    record { source = get_or l (byte 2) 0; first = get_or l (byte 3) 0; second = get_or l (byte 4) 0; third = get_or l (byte 5) 0; text = byte 6; length = length l - byte 6 }

-- 17 for another kind of line, then the checks of an H line behind the second
unfoldable pub header_said : List ℕ → Said HeaderLine
header_said l = of_kind (code "H") l λ _. and_then (h_line l) λ _. says (header_in l)

-- the answer, in the paper's terms

abbrev pub HeaderGiven : List ℕ → Result HeaderLine Refusal → Type 0
HeaderGiven l r = result_told r ≡ header_said l
