-- A quoted line and its caret have room in 162 bytes. Assumes nothing.
use Prim.Native.Nat.{ℕ, ◌-◌, ◌≤◌}
use mathlib.Core.Bool.{Bool, true, false, cond}
use mathlib.Core.List.{List, [], ◌++◌}
use mathlib.Core.Path.{◌≡◌, refl}
use native.Mathlib.Nat.{min-le_left}
use native.Mathlib.Omega.{arith}
use borrow.Author.Tests.{leb-true, leb-false}
use lib.Dec.{leb, eqb}
use lib.ListN.{length, drop, length-append, length-map, length-take, length-replicate}
use Rattle.text_quote.specs.Quote.{before, window, window_line, caret_line, quote}

-- the longer of two texts
pub by_cond : (t : Bool) (a b : List ℕ) (n : ℕ) → length a ≤ n → length b ≤ n → length (cond t a b) ≤ n
by_cond true a b n h k = h
by_cond false a b n h k = k

window_room : (b : ℕ) (text : List ℕ) → length (window_line b text) ≤ 81
unfolding window_line window
window_room b text =
    simp (length-append, length-map, length-take) (omega (arith, min-le_left 80 (length (drop (before b) text))))

caret_short : (b : ℕ) → b - 1 - before b ≤ 79
unfolding before
caret_short b = by (leb b 80) refl
  where
    by : (t : Bool) → leb b 80 ≡ t → b - 1 - cond t 0 (b - 41) ≤ 79
    by true e = omega (arith, leb-true b 80 e)
    by false e = omega (arith, leb-false b 80 e)

caret_room : (b : ℕ) → length (caret_line b) ≤ 81
unfolding caret_line
caret_room b = simp (length-append, length-replicate) (omega (arith, caret_short b))

pub quote_room : (b : ℕ) (text : List ℕ) → length (quote b text) ≤ 162
unfolding quote
quote_room b text =
    by_cond (eqb b 0) (cond (eqb (length text) 0) [] (window_line 0 text)) (window_line b text ++ caret_line b) 162
    (by_cond (eqb (length text) 0) [] (window_line 0 text) 162 (omega arith) (omega (arith, window_room 0 text)))
    (simp length-append (omega (arith, window_room b text, caret_room b)))
