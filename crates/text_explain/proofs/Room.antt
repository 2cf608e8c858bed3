-- An explanation has room in 400 bytes. Assumes nothing.
use Prim.Native.Nat.{ℕ, ◌+◌, ◌≤◌}
use mathlib.Core.List.{List, [], ◌++◌}
use native.Mathlib.Omega.{arith}
use lib.Dec.{eqb}
use lib.ListN.{length, length-append}
use Rattle.rules.specs.Choice.{bytes}
use Rattle.rules.specs.Listing.{shown}
use Rattle.rules.specs.Refusals.{number}
use Rattle.rules.specs.declared.Reason.{Reason}
use Rattle.rules.specs.declared.Refusal.{Refusal}
use Rattle.text_pieces.proofs.Laws.{number_room}
use Rattle.text_refusal.proofs.Words.{name_room, meaning_room}
use Rattle.text_quote.specs.Quote.{before, quote}
use Rattle.text_quote.proofs.Room.{by_cond, quote_room}
use Rattle.text_faulty.specs.Faulty.{text_of}
use Rattle.text_explain.specs.Explanation.{called, counted, placed, begun, meant, head, explanation}

called_room : (reason : Reason) → length (called reason) ≤ 39
unfolding called bytes
called_room reason = simp length-append (omega (arith, number_room (number reason), name_room reason))

counted_room : (word : List ℕ) (n : ℕ) → length (counted word n) ≤ length word + 21
unfolding counted
counted_room word n = by_cond (eqb n 0) [] (word ++ shown n) (length word + 21) (omega arith) (simp length-append (omega (arith, number_room n)))

placed_room : (l b : ℕ) → length (placed l b) ≤ 54
unfolding placed bytes
placed_room l b = simp length-append (omega (arith, counted_room (bytes ", line") l, counted_room (bytes ", byte") b))

begun_room : (b : ℕ) → length (begun b) ≤ 38
unfolding begun bytes
begun_room b =
    by_cond (eqb (before b) 0) [] (bytes " (text from byte" ++ (shown (before b + 1) ++ bytes ")")) 38 (omega arith) (simp length-append (omega (arith, number_room (before b + 1))))

meant_room : (reason : Reason) (b : ℕ) → length (meant reason b) ≤ 116
unfolding meant bytes
meant_room reason b = simp length-append (omega (arith, meaning_room reason, begun_room b))

head_room : (w : Refusal) → length (head w) ≤ 209
unfolding head
head_room w = simp length-append (omega (arith, called_room w.reason, placed_room w.line w.byte, meant_room w.reason w.byte))

pub explanation_room : (file : List ℕ) (w : Refusal) → length (explanation file w) ≤ 400
unfolding explanation
explanation_room file w =
    simp length-append
    (omega
    (arith, head_room w, by_cond (eqb w.line 0) [] (quote w.byte (text_of file w.line)) 162 (omega arith) (quote_room w.byte (text_of file w.line))))
