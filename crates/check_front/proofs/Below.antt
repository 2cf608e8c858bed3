-- A line that keeps the wider bounds and is below 180 degrees keeps the bounds of one kind or of the other. Assumes nothing.
use Prim.Native.Nat.{ℕ}
use mathlib.Core.Bool.{Bool, true, false, ◌||◌}
use mathlib.Core.List.{List}
use mathlib.Core.Path.{◌≡◌, refl}
use borrow.Author.Tests.{leb-true}
use lib.Dec.{leb}
use lib.ListN.{get_or, drop}
use lib.Seq.{get_or-drop}
use Rattle.rules.specs.Choice.{bytes}
use Rattle.rules.specs.Fields.{is_either}
use Rattle.rules.proofs.Inverse.{or_inv}
use Rattle.check_front.specs.Front.{between, lows, highs, nears, wides, is_bounded, is_below, is_front}
use Rattle.check_front.proofs.Laws.{tighter}

-- the first digit of the longitude is 0, or its second is at most 7
pub bounded_below : (l : List ℕ) → between lows wides (drop 3 l) ≡ true → is_below (get_or l 15 0) (get_or l 16 0) ≡ true → is_bounded l ≡ true
unfolding is_bounded is_below bytes
bounded_below l e b =
    or_inv (leb (get_or l 15 0) 48) (leb (get_or l 16 0) 55) b
    (λ h. second (between lows highs (drop 3 l)) (tighter 12 48 lows wides (drop 3 l) e (rw (get_or-drop 3 l 12 0) (leb-true (get_or l 15 0) 48 h))))
    (λ h. let far : between lows highs (drop 3 l) ≡ true = tighter 13 55 lows wides (drop 3 l) e (rw (get_or-drop 3 l 13 0) (leb-true (get_or l 16 0) 55 h)) in rw far refl)
  where
    second : (s : Bool) → between lows nears (drop 3 l) ≡ true → (s || between lows nears (drop 3 l)) ≡ true
    second true e = refl
    second false e = e

-- and its letters are right
pub front_below : (l : List ℕ) → between lows wides (drop 3 l) ≡ true → is_below (get_or l 15 0) (get_or l 16 0) ≡ true
    → is_either (get_or l 14 0) 78 83 ≡ true → is_either (get_or l 23 0) 69 87 ≡ true → is_either (get_or l 24 0) 65 86 ≡ true → is_front l ≡ true
unfolding is_front
front_below l e b n o v = rw (bounded_below l e b, n, o, v)
