-- A part of a text that is asked for by its two places, and no bytes where they are no places of the text. Assumes nothing.
use Rattle.std.specs.Prelude.{None, Option, Some}
use Rattle.std.specs.Slice.{IsGetRangeResult}
use Rattle.std.specs.Option.{UnwrapsOrElse}
use Prim.Native.Nat.{ℕ, ◌-◌, ◌≤◌, ◌<◌}
use mathlib.Core.Bool.{Bool, true, false}
use mathlib.Core.List.{List, []}
use mathlib.Core.Logic.{inl, inr}
use mathlib.Core.Path.{◌≡◌, refl, ap, ◌∙◌}
use native.Mathlib.Omega.{arith}
use borrow.Author.Tests.{le-leb, lt-leb}
use Rattle.std.specs.Borrow.{Bor}
use lib.Dec.{leb}
use lib.ListN.{length, drop, drop_of_length-le, length-drop}
use lib.Seq.{take_all}
use Rattle.rules.specs.Choice.{need, part}

no_part : (l : List ℕ) (from to : ℕ) → length l < to → [] ≡ (need (leb from to) [] λ _. need (leb to (length l)) [] λ _. part from to l)
no_part l from to h = rw (lt-leb to (length l) h) (by (leb from to))
  where
    by : (t : Bool) → ◌≡◌ {A = List ℕ} [] (need t [] λ _. [])
    by true = refl
    by false = refl

pub part_got : (l : List ℕ) (from to : ℕ) (r : Option (Bor (List ℕ))) (x : Bor (List ℕ)) → IsGetRangeResult l from to r → UnwrapsOrElse r (λ (y : Bor (List ℕ)). y.now ≡ []) x
    → x.now ≡ (need (leb from to) [] λ _. need (leb to (length l)) [] λ _. part from to l)
part_got l from to None x g u = elim g.0 [ inl h ↦ rw (lt-leb from to h) u | inr h ↦ u ∙ no_part l from to h ]
part_got l from to (Some y) x g u = rw (le-leb from to g.0.0, le-leb to (length l) g.0.1) (ap (λ (b : Bor (List ℕ)). b.now) u ∙ g.0.2)

-- the same of all from a place on
pub rest_got : (l : List ℕ) (from : ℕ) (r : Option (Bor (List ℕ))) (x : Bor (List ℕ)) → IsGetRangeResult l from (length l) r → UnwrapsOrElse r (λ (y : Bor (List ℕ)). y.now ≡ []) x → x.now ≡ drop from l
rest_got l from None x g u = elim g.0 [ inl h ↦ let past : length l ≤ from = omega arith in rw (drop_of_length-le l past) u | inr h ↦ absurd (omega arith) ]
rest_got l from (Some y) x g u = ap (λ (b : Bor (List ℕ)). b.now) u ∙ g.0.2 ∙ take_all (length l - from) (drop from l) (simp length-drop (omega arith))
