-- The pieces that the listing's lines alone have, signs, layouts and columns; and that each line has room. Assumes nothing.
use Prim.Native.Nat.{ℕ, ◌+◌, ◌-◌, ◌≤◌, ◌<◌, min}
use mathlib.Core.Bool.{Bool, true, false}
use mathlib.Core.List.{List, [], ◌∷◌, ◌++◌, append_assoc}
use mathlib.Core.Path.{◌≡◌, refl, sym, ap, ◌∙◌}
use native.Mathlib.Numerals.{add-one}
use native.Mathlib.Omega.{arith}
use borrow.Author.Tests.{le-leb, leb-true, leb-false, ne_eqb}
use lib.Dec.{leb}
use lib.IntN.{ℤ, pos, negsuc, nat_abs}
use lib.ListN.{length, drop, length-append, length-drop, drop_of_length-le, get_or-eq_default}
use lib.Seq.{take_all, take-nil}
use lib.Signed.{non_neg}
use Rattle.rules.specs.Choice.{need, part, bytes}
use Rattle.rules.specs.Layouts.{line_length, unused}
use Rattle.rules.specs.Listing.{decimal, shown, shown_letter, shown_metres, lf, refused_text, ok_text, fix_shown, column_shown}
use Rattle.rules.specs.declared.Entry.{Entry}
use Rattle.rules.specs.declared.Layout.{Layout}
use Rattle.rules.specs.declared.FixFields.{FixFields}
use Rattle.rules.specs.declared.Flight.{Flight}
use Rattle.rules_values.proofs.Laws.{take_most}
use Rattle.text_pieces.specs.Buffer.{PiecePut}
use Rattle.text_pieces.proofs.Laws.{number_room}
use Rattle.text_listing.specs.Lines.{column_line, counted, two_shown, ok_numbers, position_shown, fix_places, fix_heights, metres_behind}

-- ---- a height's text by its sign and its size

plain_metres : (mark : ℕ) (z : ℤ) → non_neg z ≡ true → metres_behind mark z ≡ mark ∷ decimal (nat_abs z)
plain_metres mark (pos n) h = refl
plain_metres mark (negsuc n) h = let e : ◌≡◌ {A = ℕ} 0 1 = cc in absurd (omega arith)

minus_metres : (mark : ℕ) (z : ℤ) → non_neg z ≡ false → metres_behind mark z ≡ mark ∷ 45 ∷ decimal (nat_abs z)
minus_metres mark (pos n) h = let e : ◌≡◌ {A = ℕ} 0 1 = cc in absurd (omega arith)
minus_metres mark (negsuc n) h = rw add-one

-- t is what the test of the sign said, and m the size
module _ (out after : List ℕ) (at r mark : ℕ) (z : ℤ) (t : Bool) (m : ℕ) (e : t ≡ non_neg z) (f : m ≡ nat_abs z) where
  pub plain_fills : t ≡ true → PiecePut out at (mark ∷ decimal m) r after → PiecePut out at (metres_behind mark z) r after
  plain_fills g p = rw (plain_metres mark z (sym e ∙ g), ← f) p

  pub minus_fills : t ≡ false → PiecePut out at (mark ∷ 45 ∷ decimal m) r after → PiecePut out at (metres_behind mark z) r after
  minus_fills g p = rw (minus_metres mark z (sym e ∙ g), ← f) p

pub behind_space : (z : ℤ) → metres_behind 32 z ≡ shown_metres z
behind_space (pos n) = refl
behind_space (negsuc n) = refl

-- ---- layouts

-- a layout that counts more entries than it has
pub length_past : (start : ℕ) (l : Layout) → length l.entries ≡ 13 → 13 < l.count → 0 ≡ line_length start l
unfolding line_length
length_past start l e h =
    let some : l.count ≡ 0 → ⊥ = λ z. omega arith in
    rw (ne_eqb l.count 0 some, get_or-eq_default l.entries unused {n = l.count - 1} (omega arith))

-- ---- columns

-- a part is cut where the text ends, and is none where it begins behind its end
pub part_cut : (from last to : ℕ) (l : List ℕ) → to ≡ min last (length l) → (need (leb from to) [] λ _. need (leb to (length l)) [] λ _. part from to l) ≡ part from last l
part_cut from last to l e = by (leb from to) refl
  where
    whole_or_cut : from ≤ to → part from to l ≡ part from last l
    whole_or_cut g = by_end (leb last (length l)) refl
      where
        by_end : (t : Bool) → leb last (length l) ≡ t → part from to l ≡ part from last l
        by_end true h = let same : to ≡ last = omega (arith, e, leb-true last (length l) h) in rw same
        by_end false h =
            let over : length l < last = leb-false last (length l) h in
            rw (
              take_all (to - from) (drop from l) (simp length-drop (omega (arith, e))),
              take_all (last - from) (drop from l) (simp length-drop (omega arith)),
            )

    none : to < from → [] ≡ part from last l
    none h = by_end (leb last from) refl
      where
        by_end : (t : Bool) → leb last from ≡ t → [] ≡ part from last l
        by_end true g = let z : last - from ≡ 0 = omega (arith, leb-true last from g) in rw z
        by_end false g =
            let past : length l ≤ from = omega (arith, e, leb-false last from g) in
            rw (drop_of_length-le l past) (sym (take-nil (last - from)))

    by : (t : Bool) → leb from to ≡ t → (need t [] λ _. need (leb to (length l)) [] λ _. part from to l) ≡ part from last l
    by true h =
        let within : to ≤ length l = omega (arith, e) in
        rw (le-leb to (length l) within) (whole_or_cut (leb-true from to h))
    by false h = none (leb-false from to h)

-- ---- lines of their parts

module _ (w : List ℕ) (a b c : ℕ) (rest : List ℕ) where
  regrouped : counted w a b c ++ rest ≡ w ++ (shown a ++ (shown b ++ (shown c ++ rest)))
  unfolding counted
  regrouped = simp append_assoc

pub refused_parts : (n l b : ℕ) → refused_text n l b ≡ counted (bytes "REFUSED") n l b ++ lf
unfolding refused_text bytes
refused_parts n l b = sym (regrouped (bytes "REFUSED") n l b lf)

paired : (a b c d rest : List ℕ) → (a ++ b) ++ ((c ++ d) ++ rest) ≡ a ++ (b ++ (c ++ (d ++ rest)))
paired a b c d rest = simp append_assoc

pub ok_parts : (f : Flight) → ok_text f ≡ ok_numbers f.lines f.counts (line_length 36 f.layouts.b) (line_length 8 f.layouts.k) (line_length 8 f.layouts.n)
unfolding ok_text ok_numbers two_shown bytes
ok_parts f =
    let b = shown (line_length 36 f.layouts.b) in
    let k = shown (line_length 8 f.layouts.k) in
    let n = shown (line_length 8 f.layouts.n) in
    let c = shown f.counts.n in
    sym (regrouped (bytes "OK") f.lines f.counts.b f.counts.k ((b ++ k) ++ ((c ++ n) ++ lf)) ∙ ap (λ x. bytes "OK" ++ (shown f.lines ++ (shown f.counts.b ++ (shown f.counts.k ++ x)))) (paired b k c n lf))

grouped : (w a b c d rest : List ℕ) → w ++ (a ++ (b ++ ((c ++ d) ++ rest))) ≡ (w ++ (a ++ (b ++ c))) ++ (d ++ rest)
grouped w a b c d rest = simp append_assoc

pub places_parts : (n : ℕ) (f : FixFields) → fix_places n f ≡ counted (bytes "FIX") n f.time f.lat.count ++ (shown_letter f.lat.letter ++ position_shown f.lon)
unfolding fix_places position_shown counted bytes
places_parts n f = grouped (bytes "FIX") (shown n) (shown f.time) (shown f.lat.count) (shown_letter f.lat.letter) (position_shown f.lon)

regroup : (w a b c d e f rest : List ℕ) → w ++ (a ++ (b ++ (c ++ (d ++ (e ++ (f ++ rest)))))) ≡ (w ++ (a ++ (b ++ ((c ++ d) ++ (e ++ f))))) ++ rest
regroup w a b c d e f rest = simp append_assoc

pub fix_parts : (n : ℕ) (f : FixFields) → fix_shown n f ≡ fix_places n f ++ fix_heights f
unfolding fix_shown fix_places fix_heights position_shown bytes
fix_parts n f =
    regroup (bytes "FIX") (shown n) (shown f.time) (shown f.lat.count) (shown_letter f.lat.letter) (shown f.lon.count) (shown_letter f.lon.letter) (fix_heights f)

-- ---- room

pub metres_room : (z : ℤ) → length (shown_metres z) ≤ 22
metres_room (pos n) = omega (arith, number_room n)
metres_room (negsuc n) = omega (arith, number_room (n + 1))

pub refused_room : (n l b : ℕ) → length (refused_text n l b) ≤ 288
unfolding refused_text bytes
refused_room n l b = simp length-append (omega (arith, number_room n, number_room l, number_room b))

pub ok_room : (f : Flight) → length (ok_text f) ≤ 288
unfolding ok_text bytes
ok_room f =
    simp length-append
    (omega (arith, number_room f.lines, number_room f.counts.b, number_room f.counts.k, number_room (line_length 36 f.layouts.b), number_room (line_length 8 f.layouts.k), number_room f.counts.n, number_room (line_length 8 f.layouts.n)))

pub fix_room : (n : ℕ) (f : FixFields) → length (fix_shown n f) ≤ 288
unfolding fix_shown bytes
fix_room n f =
    simp length-append
    (omega (arith, number_room n, number_room f.time, number_room f.lat.count, number_room f.lon.count, metres_room f.pressure.metres, metres_room f.gnss.metres))

spelt_room : (l : List ℕ) (e : Entry) → e.last < 256 → length (column_shown l e) ≤ 288
unfolding column_shown bytes
spelt_room l e h = simp length-append (omega (arith, take_most (e.last - (e.first - 1)) (drop (e.first - 1) l)))

pub column_room : (l : List ℕ) (e : Entry) → e.last < 256 → length (column_line l e) ≤ 288
unfolding column_line
column_room l e h = by (leb e.code 0xFFFFFF)
  where
    by : (t : Bool) → length (need t [] λ _. column_shown l e) ≤ 288
    by true = spelt_room l e h
    by false = omega arith
