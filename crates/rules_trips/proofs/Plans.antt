-- The flight date of a declaration both ways: six zeros read as not given, and every other date as a date does. Assumes nothing.
use Rattle.std.specs.Prelude.{None, Option, Some}
use Prim.Native.Nat.{ℕ, ◌+◌, ◌*◌, ◌%◌}
use mathlib.Core.Bool.{Bool, true, false, cond}
use mathlib.Core.List.{List, ◌++◌}
use mathlib.Core.Path.{◌≡◌, refl, ◌∙◌, ap}
use native.Mathlib.Omega.{arith}
use borrow.Author.Tests.{eqb-true, ne_eqb}
use lib.Dec.{eqb}
use lib.ListN.{drop}
use Rattle.rules.specs.Choice.{given}
use Rattle.rules.specs.Numbers.{number_at}
use Rattle.rules.specs.Fields.{date_at, date_text}
use Rattle.rules.specs.Lines.{planned_at}
use Rattle.rules.specs.Writes.{planned_text}
use Rattle.rules.specs.declared.Date.{Date}
use Rattle.rules.specs.Limits.{is_planned}
use Rattle.rules.proofs.Inverse.{none_some, given_inv}
use Rattle.rules.proofs.Texts.{planned_length}
use Rattle.rules_trips.proofs.Texts.{are_valid}
use Rattle.rules_trips.proofs.Digits.{digits_clean, number_there, number_here, pairs_join}
use Rattle.rules_trips.proofs.Dates.{date_trip, date_within}
use Rattle.rules_trips.proofs.Trip.{Trip}

-- what a flight date that was read says of the line
pub data PlannedThere (s : List ℕ) (at : ℕ) : Option Date → Type 0 where
  zeros : number_at s at 6 ≡ Some 0 → PlannedThere s at None
  dated : (d : Date) → date_at s at ≡ Some d → PlannedThere s at (Some d)

pub planned_there : (s : List ℕ) (at : ℕ) (f : Option Date) → planned_at s at ≡ Some f → PlannedThere s at f
unfolding planned_at
planned_there s at f e =
    let v = given_inv (number_at s at 6) None (Some f) _ none_some e in
    go v.0 v.1 (eqb v.0 0) refl v.2
  where
    go : (v : ℕ) → number_at s at 6 ≡ Some v → (b : Bool) → eqb v 0 ≡ b
        → cond b (Some None) (given (date_at s at) None λ d. Some (Some d)) ≡ Some f → PlannedThere s at f
    go v n true q e =
        let i : None ≡ f = cc in
        rw (← i) (zeros (n ∙ ap Some (eqb-true v 0 q)))
    go v n false q e =
        let d = given_inv (date_at s at) None (Some f) _ none_some e in
        let i : Some d.0 ≡ f = cc in
        rw (← i) (dated d.0 d.1)

text_there : (s : List ℕ) (at to : ℕ) (f : Option Date) → at + 6 ≡ to → PlannedThere s at f → drop at s ≡ planned_text f ++ drop to s
unfolding planned_text
text_there s at to f t (zeros e) = (number_there s at 6 to 0 t e).0
text_there s at to f t (dated d e) = date_trip.there s at to d t e

within : (s : List ℕ) (at : ℕ) (f : Option Date) → PlannedThere s at f → is_planned f ≡ true
unfolding is_planned
within s at f (zeros e) = refl
within s at f (dated d e) = date_trip.limits s at d e

text_here : (s : List ℕ) (at : ℕ) (f : Option Date) (r : List ℕ) → is_planned f ≡ true → drop at s ≡ planned_text f ++ r → planned_at s at ≡ Some f
unfolding planned_at planned_text is_planned date_text
text_here s at None r h e = simp (number_here s at 6 0 r (omega arith) (omega arith) e)
text_here s at (Some d) r h e =
    let w = date_within d h in
    let v = d.day * 10000 + (d.month * 100 + d.year % 100) in
    let n = number_here s at 6 v r (omega arith) (omega arith) (rw (pairs_join d.day d.month (d.year % 100) (omega arith) (omega arith)) at e) in
    simp (n, ne_eqb v 0 (omega arith), date_trip.here s at d r h e)

clean : (f : Option Date) → is_planned f ≡ true → are_valid (planned_text f) ≡ true
unfolding planned_text is_planned
clean (Some d) g = date_trip.clean d g
clean None g = digits_clean 6 0

pub planned_trip : Trip planned_at planned_text 6 is_planned
planned_trip = record {
  long = planned_length;
  clean = clean;
  there = λ s at to f t e. text_there s at to f t (planned_there s at f e);
  limits = λ s at f e. within s at f (planned_there s at f e);
  here = text_here;
}
