-- Columns read and put one after the other: what is still to be put from each one on is the whole row. Assumes nothing.
use Rattle.std.specs.Prelude.{None, Option, Some}
use Rattle.std.specs.Option.{unwrap_or}
use Prim.Native.Nat.{ℕ, zero, suc, ◌+◌, ◌-◌, ◌*◌, ◌/◌, ◌≤◌, ◌<◌}
use mathlib.Core.List.{List, ◌∷◌}
use mathlib.Core.Path.{◌≡◌, refl, ap, ◌∙◌}
use native.Mathlib.Omega.{arith}
use borrow.Author.Tests.{le-leb, lt-leb}
use lib.IntN.{ℤ}
use lib.ListN.{length, get_or, set, drop, length-set}
use lib.Seq.{sets, length-sets, drop-drop, get_or-drop}
use Rattle.rules.specs.Choice.{part, byte}
use Rattle.rules.specs.Numbers.{whole_of}
use Rattle.rules.specs.declared.Signed.{Signed}
use Rattle.columns_row.specs.Cells.{no_number, marked, cell_of, row_from, row_of, RowPut}

-- ---- the number of a text: what stands in a look-up, or the mark

pub number_there : (o : Option Signed) → unwrap_or o (record { value = no_number }) ≡ marked o
unfolding marked
number_there (Some z) = refl
number_there None = refl

-- ---- a row

pub row_long : (n : ℕ) (line places : List ℕ) → length (row_from n line places) ≡ n
unfolding row_from
row_long zero line places = refl
row_long (suc n) line places = ap suc (row_long n line (drop 2 places))

module _ (line places : List ℕ) (n i : ℕ) (h : i < n) where
  open_drop : drop 2 (drop (i * 2) places) ≡ drop ((i + 1) * 2) places
  open_drop = let m : i * 2 + 2 ≡ (i + 1) * 2 = omega arith in drop-drop 2 (i * 2) places ∙ ap (λ (k : ℕ). drop k places) m

  first_at : get_or (drop (i * 2) places) 0 0 ≡ get_or places (i * 2) 0
  first_at = let m : i * 2 + 0 ≡ i * 2 = omega arith in get_or-drop (i * 2) places 0 0 ∙ ap (λ (k : ℕ). get_or places k 0) m

  -- the next column, and those behind it
  pub row_next : row_from (n - i) line (drop (i * 2) places)
      ≡ cell_of line (record { first = get_or places (i * 2) 0; last = get_or places (i * 2 + 1) 0 }) ∷ row_from (n - (i + 1)) line (drop ((i + 1) * 2) places)
  unfolding row_from
  row_next = let m : n - i ≡ suc (n - (i + 1)) = omega arith in rw (m, first_at, get_or-drop (i * 2) places 1 0, open_drop)

-- what is left to be put from column i on gives the whole row
pub record Puts (line places : List ℕ) (n : ℕ) (list₀ : List ℤ) (at : ℕ) (list : List ℤ) (i : ℕ) : Type 0 where
  pub long : length list ≡ length list₀
  pub few : i ≤ n
  pub is : sets list (at + i) (row_from (n - i) line (drop (i * 2) places)) ≡ sets list₀ at (row_from n line places)

pub puts_first : (line places : List ℕ) (n : ℕ) (list : List ℤ) (at : ℕ) → Puts line places n list at list 0
puts_first line places n list at =
    let m : at + 0 ≡ at = omega arith in
    let k : n - 0 ≡ n = omega arith in
    record { long = refl; few = omega arith; is = rw (m, k) }

pub puts_next : (line places : List ℕ) (n : ℕ) (list₀ : List ℤ) (at : ℕ) (list : List ℤ) (i : ℕ) → Puts line places n list₀ at list i → i < n
    → (text : List ℕ) (z : Signed) (v : ℤ) → text ≡ part (byte (get_or places (i * 2) 0)) (get_or places (i * 2 + 1) 0) line → z ≡ marked (whole_of text) → v ≡ z.value
    → Puts line places n list₀ at (set list (at + i) v) (i + 1)
puts_next line places n list₀ at list i w h text z v e f g =
    let m : at + (i + 1) ≡ suc (at + i) = omega arith in
    let c : v ≡ cell_of line (record { first = get_or places (i * 2) 0; last = get_or places (i * 2 + 1) 0 }) = g ∙ ap (λ (y : Signed). y.value) f ∙ ap (λ (t : List ℕ). (marked (whole_of t)).value) e in
    record {
      long = length-set list (at + i) v ∙ w.long;
      few = omega arith;
      is = rw (c, m) (rw (row_next line places n i h) at w.is);
    }

pub puts_last : (line places : List ℕ) (n : ℕ) (list₀ : List ℤ) (at : ℕ) (list : List ℤ) (i : ℕ) → Puts line places n list₀ at list i → (i < n → ⊥) → list ≡ sets list₀ at (row_from n line places)
unfolding row_from
puts_last line places n list₀ at list i w h = let m : n - i ≡ 0 = omega arith in rw m at w.is

-- ---- where the row has room, or has none

pub put_length : (list after : List ℤ) (at : ℕ) (vs : List ℤ) → after ≡ sets list at vs → length after ≡ length list
put_length list after at vs e = rw e (length-sets list at vs)

module _ (line places : List ℕ) (at : ℕ) (list : List ℤ) where
  pub row_past : length list < at + length places / 2 → RowPut line places at list list
  row_past h = rw (lt-leb (at + length places / 2) (length list) h)

  pub row_there : length places / 2 ≤ length list → at ≤ length list - length places / 2 → (after : List ℤ) → after ≡ sets list at (row_of line places) → RowPut line places at list after
  row_there h g after e = rw (le-leb (at + length places / 2) (length list) (omega arith)) e
