-- A time's seconds, and its text, with the leap second: the cases that proofs go by. Assumes nothing.
use Prim.Native.Nat.{ℕ, ◌/◌, ◌%◌, ◌≤◌}
use mathlib.Core.Bool.{Bool, true, false, ◌&&◌, ◌||◌, cond}
use mathlib.Core.List.{List}
use mathlib.Core.Logic.{◌⊎◌, inl, inr}
use mathlib.Core.Path.{◌≡◌, refl}
use borrow.Author.Tests.{leb-true, eqb-true}
use lib.Dec.{eqb, leb}
use Rattle.rules.specs.Numbers.{pairs_text}
use Rattle.rules.specs.Fields.{is_second, time_text}
use Rattle.rules.proofs.Inverse.{and_inv}

-- 0 to 59, or the leap second
abbrev pub SecondIn : ℕ → ℕ → ℕ → Type 0
SecondIn h m x = (x ≤ 59) ⊎ ((h ≡ 23) × (m ≡ 59) × (x ≡ 60))

pub second_inv : (h m x : ℕ) → is_second h m x ≡ true → SecondIn h m x
unfolding is_second
second_inv h m x e = by (leb x 59) refl e
  where
    by : (t : Bool) → leb x 59 ≡ t → (t || (eqb x 60 && eqb h 23 && eqb m 59)) ≡ true → SecondIn h m x
    by true l e = inl (leb-true x 59 l)
    by false l e =
        let p = and_inv (eqb x 60 && eqb h 23) (eqb m 59) e in
        let q = and_inv (eqb x 60) (eqb h 23) p.0 in
        inr (eqb-true h 23 q.1, eqb-true m 59 p.1, eqb-true x 60 q.0)

-- what holds of any three pairs of digits holds of the text of a time
pub by_pairs : (P : List ℕ → Type 0) → ((a b c : ℕ) → P (pairs_text a b c)) → (t : ℕ) → P (time_text t)
unfolding time_text
by_pairs P f t = by (eqb t 86400)
  where
    by : (leap : Bool) → P (cond leap (pairs_text 23 59 60) (pairs_text (t / 3600) (t / 60 % 60) (t % 60)))
    by true = f 23 59 60
    by false = f (t / 3600) (t / 60 % 60) (t % 60)
