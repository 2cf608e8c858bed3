-- A C point line both ways: it reads as a point exactly when it is that point's own line, the point within its limits and the text clean and not too long.
-- Assumes nothing.
use Rattle.std.specs.Prelude.{Some}
use Prim.Native.Nat.{ℕ, ◌+◌, ◌≤◌}
use Prim.Native.Char.{code}
use mathlib.Core.Bool.{true, false}
use mathlib.Core.List.{List, ◌∷◌, ◌++◌, append_assoc}
use mathlib.Core.Path.{◌≡◌, refl, sym, ◌∙◌, ap}
use mathlib.Core.Logic.{◌↔◌}
use native.Mathlib.Omega.{arith}
use borrow.Author.Tests.{le-leb, leb-true, eqb-true, eq-eqb}
use lib.Dec.{leb, eqb}
use lib.ListN.{length, get_or, drop, length-append}
use lib.Seq.{drop_at}
use Rattle.rules.specs.Refusals.{says}
use Rattle.rules.specs.Chars.{is_valid}
use Rattle.rules.specs.Fields.{latitude_at, longitude_at, latitude_text, longitude_text}
use Rattle.rules.specs.Degrees.{is_latitude, is_longitude}
use Rattle.rules.specs.Lines.{shaped, point_line}
use Rattle.rules.specs.Reads.{point_said}
use Rattle.rules.specs.Writes.{point_text, same_point, is_point}
use Rattle.rules.specs.declared.Point.{Point}
use Rattle.rules.specs.Limits.{is_clean, good_point}
use Rattle.rules.proofs.Inverse.{false_true, refuses_says, given_inv, need_inv, then_inv}
use Rattle.rules_trips.proofs.Laws.{past, byte_there}
use Rattle.rules_trips.proofs.Texts.{are_valid, both_valid, front_there, front_here}
use Rattle.rules_trips.proofs.Positions.{latitude_trip, longitude_trip}
use Rattle.rules_trips.proofs.Same.{point_tells}
use Rattle.rules_trips.proofs.LineTrip.{LineTrip, is_good}

-- what a point that was read says of the line
pub record PointThere (l : List ℕ) (p : Point) : Type 0 where
  pub kind : get_or l 0 0 ≡ code "C"
  pub shape : shaped 18 255 false l ≡ says tt
  pub at_lat : latitude_at l 1 ≡ Some p.lat
  pub at_lon : longitude_at l 9 ≡ Some p.lon

pub point_there : (l : List ℕ) (p : Point) → point_said l ≡ says p → PointThere l p
unfolding point_said point_line
point_there l p e =
    let k = need_inv (eqb (get_or l 0 0) (code "C")) _ (says p) _ refuses_says e in
    let s = then_inv (shaped 18 255 false l) p _ k.1 in
    let a = given_inv (latitude_at l 1) _ (says p) _ refuses_says s.2 in
    let o = given_inv (longitude_at l 9) _ (says p) _ refuses_says a.2 in
    let i : record { lat = a.0; lon = o.0 } ≡ p = cc in
    rw (← i) record { kind = eqb-true _ _ k.0; shape = s.1; at_lat = a.1; at_lon = o.1 }

pub point_said_lem : (l : List ℕ) (p : Point) → PointThere l p → point_said l ≡ says p
unfolding point_said point_line
point_said_lem l p w = simp (eq-eqb _ _ w.kind, w.shape, w.at_lat, w.at_lon)

-- the fields' part of a point's line
front : Point → List ℕ
front p = code "C" ∷ (latitude_text p.lat ++ longitude_text p.lon)

front_text : (p : Point) (rest : List ℕ) → point_text p rest ≡ front p ++ rest
unfolding front point_text
front_text p rest = ap (λ l. code "C" ∷ l) (sym (append_assoc (latitude_text p.lat) (longitude_text p.lon) rest))

front_long : (p : Point) → length (front p) ≡ 18
unfolding front
front_long p = simp (length-append, latitude_trip.long, longitude_trip.long)

front_clean : (p : Point) → is_latitude p.lat ≡ true → is_longitude p.lon ≡ true → are_valid (front p) ≡ true
unfolding front are_valid is_valid
front_clean p a o = both_valid (latitude_text p.lat) (longitude_text p.lon) (latitude_trip.clean p.lat a) (longitude_trip.clean p.lon o)

-- what the limits say
pub record PointWithin (p : Point) (rest : List ℕ) : Type 0 where
  pub lat : is_latitude p.lat ≡ true
  pub lon : is_longitude p.lon ≡ true
  pub size : 18 + length rest ≤ 255
  pub clean : is_clean rest ≡ true

pub point_within : (p : Point) (rest : List ℕ) → (good_point p rest ≡ true) ↔ PointWithin p rest
unfolding good_point
point_within p rest = (there, λ w. simp (w.lat, w.lon, le-leb _ _ w.size, w.clean))
  where
    there : good_point p rest ≡ true → PointWithin p rest
    there e =
        let a = need_inv (is_latitude p.lat) false true _ false_true e in
        let o = need_inv (is_longitude p.lon) false true _ false_true a.1 in
        let s = need_inv (leb (18 + length rest) 255) false true _ false_true o.1 in
        record { lat = a.0; lon = o.0; size = leb-true _ _ s.0; clean = s.1 }

text_there : (l : List ℕ) (p : Point) → PointThere l p → l ≡ point_text p (drop 18 l)
unfolding point_text
text_there l p w =
    byte_there l 0 1 (code "C") refl (omega arith) w.kind
    ∙ ap (λ x. code "C" ∷ x) (latitude_trip.there l 1 9 p.lat refl w.at_lat
    ∙ ap (λ x. latitude_text p.lat ++ x) (longitude_trip.there l 9 18 p.lon refl w.at_lon))

text_here : (p : Point) (rest : List ℕ) → PointWithin p rest → PointThere (point_text p rest) p
unfolding point_text
text_here p rest w =
    let l : List ℕ = point_text p rest in
    record {
      kind = refl;
      shape = rw front_text (front_here 18 255 18 (front p) rest (front_long p) (front_clean p w.lat w.lon) (omega arith) w.size w.clean);
      at_lat = latitude_trip.here l 1 p.lat _ w.lat refl;
      at_lon = longitude_trip.here l 9 p.lon rest w.lon (past l 1 8 9 (latitude_text p.lat) _ (latitude_trip.long p.lat) refl refl);
    }

limits : (p : Point) (rest : List ℕ) → PointThere (point_text p rest) p → PointWithin p rest
limits p rest w =
    let s = front_there 18 255 18 (front p) rest (front_long p) tt (rw front_text at w.shape) in
    record { lat = latitude_trip.limits _ 1 p.lat w.at_lat; lon = longitude_trip.limits _ 9 p.lon w.at_lon; size = s.1; clean = s.2 }

pub point_trip : LineTrip point_said point_text 18 good_point
point_trip = record {
  there = λ l p e. text_there l p (point_there l p e);
  behind = λ p rest. rw front_text (drop_at (front p) rest 18 (front_long p));
  limits = λ p rest e. (point_within p rest).1 (limits p rest (point_there _ p e));
  here = λ p rest g. point_said_lem _ p (text_here p rest ((point_within p rest).0 g));
}

-- a point and a text can be written exactly when they keep to their limits
pub point_good : (p : Point) (rest : List ℕ) → is_point p rest ≡ good_point p rest
unfolding is_point
point_good p rest = is_good point_trip same_point point_tells p rest
