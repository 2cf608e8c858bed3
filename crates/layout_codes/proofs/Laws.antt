-- Laws that the proofs share: what the code found of the table, to what the definitions say of it. Assumes nothing.
use Prim.Native.Nat.{ℕ}
use mathlib.Core.Bool.{Bool, true, false, not, ◌&&◌, ◌||◌}
use mathlib.Core.List.{List}
use mathlib.Core.Path.{◌≡◌, refl}
use borrow.Author.Tests.{not-true, not-false}
use lib.Dec.{leb, eqb}
use lib.ListN.{get_or}
use Rattle.rules.specs.Listed.{listed, unlisted, keeps_sign, lad, lod, is_zeros, is_past}
use Rattle.rules.specs.declared.AtLimit.{AtLimit}
use Rattle.rules.specs.declared.Listed.{Listed}
use Rattle.rules.proofs.Links.{given_some, given_none}
use Rattle.byte_chars.proofs.Laws.{joined, told}
use Rattle.layout_codes.specs.Parts.{is_topped}

-- the row of the table that the code read
module _ (n : ℕ) (row : Listed) (x : Bool) (e : row ≡ get_or listed n unlisted) where
  pub row_width : (w : ℕ) → x ≡ (leb row.least w && leb w row.most) → x ≡ (leb (get_or listed n unlisted).least w && leb w (get_or listed n unlisted).most)
  row_width w h = rw (← e) h

  pub row_sign : (t : List ℕ) → x ≡ keeps_sign row.sign t → x ≡ keeps_sign (get_or listed n unlisted).sign t
  row_sign t h = rw (← e) h

pub ruleset rows = (joined, told, not-true, not-false, given_some, given_none, row_width, row_sign)

-- ---- digits past a limit

-- the two tests of a coordinate's column ask the same of its text
both : (a b c d z : Bool) → ((a && (b && z)) || (c && (d && z))) ≡ (((a && b) || (c && d)) && z)
both true true true true true = refl
both true true true true false = refl
both true true true false true = refl
both true true true false false = refl
both true true false d true = refl
both true true false d false = refl
both true false c d z = side c d z
  where
    side : (c d z : Bool) → (false || (c && (d && z))) ≡ ((false || (c && d)) && z)
    side true true z = refl
    side true false z = refl
    side false d z = refl
both false b true true z = refl
both false b true false z = refl
both false b false d z = refl

pub past_by : (at : AtLimit) (x : ℕ) (t : List ℕ) → is_past at x t ≡ (is_topped at x && not (is_zeros t))
unfolding is_past
past_by at x t = both at.lat (eqb x lad) at.lon (eqb x lod) (not (is_zeros t))
