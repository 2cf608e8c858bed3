-- What a caller asks of a line that was put into its buffer, which `text_pieces` shows of every text; and that the column lines are those of the rules for every entry that a layout line can spell. Assumes nothing.
use Prim.Native.Nat.{ℕ, ◌/◌, ◌%◌}
use mathlib.Core.Bool.{true, ◌&&◌}
use mathlib.Core.List.{List}
use mathlib.Core.Path.{◌≡◌}
use native.Mathlib.Omega.{arith}
use borrow.Author.Tests.{le-leb}
use lib.Dec.{leb}
pub use Rattle.text_pieces.proofs.Callers.{shown_text, shown_counts, shown_fits}
use Rattle.rules.specs.Chars.{is_code}
use Rattle.rules.specs.Listed.{is_code_word}
use Rattle.rules.specs.Layouts.{is_spelt}
use Rattle.rules.specs.Listing.{column_shown}
use Rattle.rules.specs.declared.Entry.{Entry}
use Rattle.rules.proofs.Inverse.{and_inv}
use Rattle.rules_values.proofs.Laws.{code_high}
use Rattle.text_listing.specs.Lines.{column_line}

-- ---- the entries of a layout that was read are shown

pub column_spelt : (l : List ℕ) (e : Entry) → is_spelt e ≡ true → column_line l e ≡ column_shown l e
unfolding column_line is_spelt is_code_word
column_spelt l e h =
    let x = e.code in
    let word = (and_inv (leb e.last 99) (is_code (x / 65536) && is_code (x / 256 % 256) && is_code (x % 256)) h).1 in
    let top = (and_inv (is_code (x / 65536)) (is_code (x / 256 % 256)) (and_inv (is_code (x / 65536) && is_code (x / 256 % 256)) (is_code (x % 256)) word).0).0 in
    rw (le-leb x 0xFFFFFF (omega (arith, code_high (x / 65536) top)))
