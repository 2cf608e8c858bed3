-- A C head line both ways: it reads as a head exactly when it is that head's own line, the head within its limits and the text clean and not too long.
-- Assumes nothing.
use Rattle.std.specs.Prelude.{Some}
use Prim.Native.Nat.{ℕ, ◌+◌, ◌≤◌}
use Prim.Native.Char.{code}
use mathlib.Core.Bool.{true, false}
use mathlib.Core.List.{List, ◌∷◌, ◌++◌, append_assoc}
use mathlib.Core.Path.{◌≡◌, refl, ◌∙◌, ap}
use mathlib.Core.Logic.{◌↔◌}
use native.Mathlib.Omega.{arith}
use borrow.Author.Tests.{le-leb, leb-true, eqb-true, eq-eqb}
use lib.Dec.{leb, eqb}
use lib.ListN.{length, get_or, drop, length-append}
use lib.Seq.{drop_at}
use Rattle.rules.specs.Refusals.{says}
use Rattle.rules.specs.Chars.{is_valid}
use Rattle.rules.specs.Numbers.{number_at, digits_of}
use Rattle.rules.specs.Fields.{time_at, time_text, date_at, date_text}
use Rattle.rules.specs.Lines.{shaped, planned_at, head_fields, head_line}
use Rattle.rules.specs.Reads.{head_said}
use Rattle.rules.specs.Writes.{planned_text, head_text, same_head, is_head}
use Rattle.rules.specs.declared.Head.{Head}
use Rattle.rules.specs.Limits.{is_time, is_date, is_planned, is_clean, good_head_fields, good_head}
use Rattle.rules.proofs.Inverse.{false_true, refuses_says, given_inv, need_inv, then_inv}
use Rattle.rules_trips.proofs.Laws.{past, byte_there}
use Rattle.rules_trips.proofs.Texts.{are_valid, both_valid, front_there, front_here}
use Rattle.rules_trips.proofs.Trip.{Trip}
use Rattle.rules_trips.proofs.Digits.{number_trip}
use Rattle.rules_trips.proofs.Times.{time_trip}
use Rattle.rules_trips.proofs.Dates.{date_trip}
use Rattle.rules_trips.proofs.Plans.{planned_trip}
use Rattle.rules_trips.proofs.Same.{head_tells}
use Rattle.rules_trips.proofs.LineTrip.{LineTrip, is_good}

task_trip : Trip (λ s at. number_at s at 4) (digits_of 4) 4 (λ v. leb v 9999)
task_trip = number_trip 4 9999 (omega arith) refl

turns_trip : Trip (λ s at. number_at s at 2) (digits_of 2) 2 (λ v. leb v 99)
turns_trip = number_trip 2 99 (omega arith) refl

-- what a head that was read says of the line
pub record HeadThere (l : List ℕ) (h : Head) : Type 0 where
  pub kind : get_or l 0 0 ≡ code "C"
  pub shape : shaped 25 255 false l ≡ says tt
  pub at_declared : date_at l 1 ≡ Some h.declared
  pub at_time : time_at l 7 ≡ Some h.time
  pub at_flight : planned_at l 13 ≡ Some h.flight
  pub at_task : number_at l 19 4 ≡ Some h.task
  pub at_turns : number_at l 23 2 ≡ Some h.turns

pub head_there : (l : List ℕ) (h : Head) → head_said l ≡ says h → HeadThere l h
unfolding head_said head_line head_fields
head_there l h e =
    let k = need_inv (eqb (get_or l 0 0) (code "C")) _ (says h) _ refuses_says e in
    let s = then_inv (shaped 25 255 false l) h _ k.1 in
    let d = given_inv (date_at l 1) _ (says h) _ refuses_says s.2 in
    let t = given_inv (time_at l 7) _ (says h) _ refuses_says d.2 in
    let f = given_inv (planned_at l 13) _ (says h) _ refuses_says t.2 in
    let n = given_inv (number_at l 19 4) _ (says h) _ refuses_says f.2 in
    let p = given_inv (number_at l 23 2) _ (says h) _ refuses_says n.2 in
    let i : record { declared = d.0; time = t.0; flight = f.0; task = n.0; turns = p.0 } ≡ h = cc in
    rw (← i) record {
      kind = eqb-true _ _ k.0;
      shape = s.1;
      at_declared = d.1;
      at_time = t.1;
      at_flight = f.1;
      at_task = n.1;
      at_turns = p.1;
    }

pub head_said_lem : (l : List ℕ) (h : Head) → HeadThere l h → head_said l ≡ says h
unfolding head_said head_line head_fields
head_said_lem l h w = simp (eq-eqb _ _ w.kind, w.shape, w.at_declared, w.at_time, w.at_flight, w.at_task, w.at_turns)

-- the fields' part of a head's line
front : Head → List ℕ
front h =
    code "C" ∷ (date_text h.declared ++ (time_text h.time ++ (planned_text h.flight ++ (digits_of 4 h.task ++ digits_of 2 h.turns))))

front_text : (h : Head) (rest : List ℕ) → head_text h rest ≡ front h ++ rest
unfolding front head_text
front_text h rest = simp append_assoc

front_long : (h : Head) → length (front h) ≡ 25
unfolding front
front_long h = simp (length-append, date_trip.long, time_trip.long, planned_trip.long, task_trip.long, turns_trip.long)

-- what the limits say
pub record HeadWithin (h : Head) : Type 0 where
  pub declared : is_date h.declared ≡ true
  pub time : is_time h.time ≡ true
  pub flight : is_planned h.flight ≡ true
  pub task : leb h.task 9999 ≡ true
  pub turns : leb h.turns 99 ≡ true

pub head_within : (h : Head) → (good_head_fields h ≡ true) ↔ HeadWithin h
unfolding good_head_fields
head_within h = (there, λ w. simp (w.declared, w.time, w.flight, w.task, w.turns))
  where
    there : good_head_fields h ≡ true → HeadWithin h
    there e =
        let d = need_inv (is_date h.declared) false true _ false_true e in
        let t = need_inv (is_time h.time) false true _ false_true d.1 in
        let f = need_inv (is_planned h.flight) false true _ false_true t.1 in
        let n = need_inv (leb h.task 9999) false true _ false_true f.1 in
        record { declared = d.0; time = t.0; flight = f.0; task = n.0; turns = n.1 }

front_clean : (h : Head) → HeadWithin h → are_valid (front h) ≡ true
unfolding front are_valid is_valid
front_clean h w =
    both_valid (date_text h.declared) _ (date_trip.clean _ w.declared)
    (both_valid (time_text h.time) _ (time_trip.clean _ w.time)
    (both_valid (planned_text h.flight) _ (planned_trip.clean _ w.flight)
    (both_valid (digits_of 4 h.task) _ (task_trip.clean _ w.task) (turns_trip.clean _ w.turns))))

text_there : (l : List ℕ) (h : Head) → HeadThere l h → l ≡ head_text h (drop 25 l)
unfolding head_text
text_there l h w =
    byte_there l 0 1 (code "C") refl (omega arith) w.kind
    ∙ ap (λ x. code "C" ∷ x) (date_trip.there l 1 7 _ refl w.at_declared
    ∙ ap (λ x. date_text h.declared ++ x) (time_trip.there l 7 13 _ refl w.at_time
    ∙ ap (λ x. time_text h.time ++ x) (planned_trip.there l 13 19 _ refl w.at_flight
    ∙ ap (λ x. planned_text h.flight ++ x) (task_trip.there l 19 23 _ refl w.at_task
    ∙ ap (λ x. digits_of 4 h.task ++ x) (turns_trip.there l 23 25 _ refl w.at_turns)))))

text_here : (h : Head) (rest : List ℕ) → HeadWithin h → 25 + length rest ≤ 255 → is_clean rest ≡ true → HeadThere (head_text h rest) h
unfolding head_text
text_here h rest w n c =
    let l : List ℕ = head_text h rest in
    let e₂ = past l 1 6 7 (date_text h.declared) _ (date_trip.long _) refl refl in
    let e₃ = past l 7 6 13 (time_text h.time) _ (time_trip.long _) refl e₂ in
    let e₄ = past l 13 6 19 (planned_text h.flight) _ (planned_trip.long _) refl e₃ in
    let e₅ = past l 19 4 23 (digits_of 4 h.task) _ (task_trip.long _) refl e₄ in
    record {
      kind = refl;
      shape = rw front_text (front_here 25 255 25 (front h) rest (front_long h) (front_clean h w) (omega arith) n c);
      at_declared = date_trip.here l 1 _ _ w.declared refl;
      at_time = time_trip.here l 7 _ _ w.time e₂;
      at_flight = planned_trip.here l 13 _ _ w.flight e₃;
      at_task = task_trip.here l 19 _ _ w.task e₄;
      at_turns = turns_trip.here l 23 _ rest w.turns e₅;
    }

limits : (l : List ℕ) (h : Head) → HeadThere l h → HeadWithin h
limits l h w = record {
  declared = date_trip.limits l 1 _ w.at_declared;
  time = time_trip.limits l 7 _ w.at_time;
  flight = planned_trip.limits l 13 _ w.at_flight;
  task = task_trip.limits l 19 _ w.at_task;
  turns = turns_trip.limits l 23 _ w.at_turns;
}

pub head_trip : LineTrip head_said head_text 25 good_head
unfolding good_head
head_trip = record {
  there = λ l h e. text_there l h (head_there l h e);
  behind = λ h rest. rw front_text (drop_at (front h) rest 25 (front_long h));
  limits = λ h rest e.
      let w = head_there _ h e in
      let s = front_there 25 255 25 (front h) rest (front_long h) tt (rw front_text at w.shape) in
      simp ((head_within h).1 (limits _ h w), le-leb _ _ s.1, s.2);
  here = λ h rest g.
      let w = need_inv (good_head_fields h) false true _ false_true g in
      let n = need_inv (leb (25 + length rest) 255) false true _ false_true w.1 in
      head_said_lem _ h (text_here h rest ((head_within h).0 w.0) (leb-true _ _ n.0) n.1);
}

-- a head and a text can be written exactly when they keep to their limits
pub head_good : (h : Head) (rest : List ℕ) → is_head h rest ≡ good_head h rest
unfolding is_head
head_good h rest = is_good head_trip same_head head_tells h rest
