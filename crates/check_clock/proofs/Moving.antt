-- What a line that was taken tells: there was room for it, and it has a time that does not fall. Assumes nothing.
use Rattle.std.specs.Prelude.{None, Option, Some}
use Prim.Native.Nat.{ℕ, ◌≤◌}
use mathlib.Core.Bool.{Bool, true, false, not}
use mathlib.Core.Path.{◌≡◌, refl}
use native.Mathlib.Omega.{arith}
use borrow.Author.Tests.{leb-true}
use lib.Dec.{leb}
use Rattle.rules.specs.Choice.{given, need}
use Rattle.rules.specs.Order.{passing, is_back}
use Rattle.rules.specs.declared.Counts.{Counts}
use Rattle.rules.proofs.Inverse.{and_inv}
use Rattle.check_counts.specs.Counting.{are_few}
use Rattle.check_clock.specs.Times.{onward, has_room, AfterTime}
use Rattle.check_clock.specs.declared.Pace.{Pace}

-- the counts have room for one line more
pub record Room (p : Pace) : Type 0 where
  pub lines : p.lines ≤ 33554432
  pub few : are_few p.counts ≡ true

pub room : (p : Pace) → has_room p ≡ true → Room p
unfolding has_room
room p e =
    let t = and_inv (leb p.lines 33554432) (are_few p.counts) e in
    record { lines = leb-true _ _ t.0; few = t.1 }

-- a line was taken: there was room for it, and it has a time, which does not fall
pub record InTime (time : Option ℕ) (p : Pace) (next : ℕ) (counts : Counts) (q : Pace) : Type 0 where
  pub room : Room p
  pub t : ℕ
  pub is : time ≡ Some t
  pub forth : is_back (passing p.clock t) ≡ false
  pub numbers : q ≡ onward p next t counts

timed_by : (o : Option ℕ) (time : Option ℕ) (p q : Pace) (next : ℕ) (counts : Counts) → Room p → time ≡ o
    → Some q ≡ (given o None λ s. need (not (is_back (passing p.clock s))) None λ _. Some (onward p next s counts)) → InTime time p next counts q
timed_by None time p q next counts m o e = let z : ◌≡◌ {A = ℕ} 0 1 = cc in absurd (omega arith)
timed_by (Some t) time p q next counts m o e = by (is_back (passing p.clock t)) refl e
  where
    by : (b : Bool) → is_back (passing p.clock t) ≡ b → Some q ≡ (need (not b) None λ _. Some (onward p next t counts)) → InTime time p next counts q
    by true w e = let z : ◌≡◌ {A = ℕ} 0 1 = cc in absurd (omega arith)
    by false w e = record { room = m; t = t; is = o; forth = w; numbers = cc }

pub timed_is : (time : Option ℕ) (p q : Pace) (next : ℕ) (counts : Counts) (r : Option Pace) → AfterTime time p next counts r → r ≡ Some q → InTime time p next counts q
timed_is time p q next counts r a e = by (has_room p) refl (rw e at a)
  where
    by : (b : Bool) → has_room p ≡ b
        → Some q ≡ (need b None λ _. given (time) None λ s. need (not (is_back (passing p.clock s))) None λ _. Some (onward p next s counts)) → InTime time p next counts q
    by true w e = timed_by (time) time p q next counts (room p w) refl e
    by false w e = let z : ◌≡◌ {A = ℕ} 0 1 = cc in absurd (omega arith)
