-- How long the lines are; and a line's letter and a flight date, each put before what follows it. Assumes nothing.
use Rattle.rules.specs.declared.Date.{Date}
use Rattle.std.specs.Prelude.{Option}
use Prim.Native.Nat.{ℕ, ◌+◌}
use mathlib.Core.List.{List, [], ◌∷◌, ◌++◌}
use mathlib.Core.Path.{◌≡◌}
use native.Mathlib.Omega.{arith}
use lib.ListN.{length, length-append}
use Rattle.rules.specs.Writes.{put_at, planned_text, head_text, extra_text, fields_text, fix_text}
use Rattle.rules.specs.declared.Extra.{Extra}
use Rattle.rules.specs.declared.Fix.{Fix}
use Rattle.rules.specs.declared.Head.{Head}
use Rattle.rules.proofs.Texts.{digits_length, planned_length}
use Rattle.byte_put.specs.Puts.{Fills}
use Rattle.byte_put.proofs.Laws.{put_then, byte_then}
use Rattle.write_height.proofs.Laws.{altitude_length}
use Rattle.write_fields.proofs.Laws.{date_length, time_length, position_length}

-- ---- lengths

pub extra_length : (e : Extra) (t : ℕ) (tail : List ℕ) → length (extra_text e t tail) + 2 ≡ 9 + length tail
unfolding extra_text
extra_length e t tail = simp (length-append, time_length) (omega arith)

pub fix_length : (f : Fix) (tail : List ℕ) → length (fix_text f tail) + 2 ≡ 37 + length tail
unfolding fields_text fix_text
fix_length f tail = simp (length-append, time_length, position_length, altitude_length) (omega arith)

pub head_length : (h : Head) (rest : List ℕ) → length (head_text h rest) + 2 ≡ 27 + length rest
unfolding head_text
head_length h rest = simp (length-append, date_length, time_length, planned_length, digits_length) (omega arith)

-- ---- the letter b that a line is told to begin with, and a flight date, in the form that `search` finds

pub letter_then : (x l l₁ : List ℕ) (b r : ℕ) (t : List ℕ) → r ≡ b → l₁ ≡ put_at l 0 (r ∷ []) → Fills l₁ 1 t x → Fills l 0 (b ∷ t) x
letter_then x l l₁ b r t e p g = byte_then x l l₁ 0 b t (rw e at p) g

pub planned_then : (x l l₁ : List ℕ) (at : ℕ) (f : Option Date) (b : List ℕ) → l₁ ≡ put_at l at (planned_text f) → Fills l₁ (at + 6) b x → Fills l at (planned_text f ++ b) x
planned_then x l l₁ at f b e g = put_then x l l₁ at (planned_text f) b 6 (planned_length f) e g
