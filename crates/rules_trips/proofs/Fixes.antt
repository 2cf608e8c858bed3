-- A B line both ways: with its layout it reads as a fix exactly when it is that fix's own line, the fix's fields within their limits, its tail what the layout gives, and its counts
-- split as the columns of finer digits have them. Assumes nothing.
use Rattle.std.specs.Prelude.{Some}
use Prim.Native.Nat.{ℕ}
use Prim.Native.Char.{code}
use mathlib.Core.Bool.{Bool, true, false}
use mathlib.Core.List.{List, [], ◌∷◌, ◌++◌, append_assoc, append-nil}
use mathlib.Core.Path.{◌≡◌, refl, sym, ◌∙◌, ap, subst}
use native.Mathlib.Omega.{arith}
use lib.ListN.{get_or, drop, length-append}
use Rattle.rules.specs.Choice.{on, need}
use Rattle.rules.specs.Refusals.{says}
use Rattle.rules.specs.Chars.{is_valid}
use Rattle.rules.specs.Fields.{time_at, time_text, is_either, latitude_at, longitude_at, latitude_text, longitude_text, altitude_at, altitude_text}
use Rattle.rules.specs.Degrees.{is_latitude, is_longitude}
use Rattle.rules.specs.Layouts.{allowed, columns}
use Rattle.rules.specs.Lines.{shaped_by, fix_fields, at_limit, b_line}
use Rattle.rules.specs.Fixes.{finer_of, fix_of, fields_of}
use Rattle.rules.specs.Reads.{fields_said, fix_said}
use Rattle.rules.specs.Writes.{fields_text, fix_text, same_fix, is_fix}
use Rattle.rules.specs.declared.FixFields.{FixFields}
use Rattle.rules.specs.declared.Fix.{Fix}
use Rattle.rules.specs.declared.Family.TheVariants as family
use Rattle.rules.specs.declared.Layout.{Layout}
use Rattle.rules.specs.Limits.{is_time, is_altitude, good_tail, good_fix_fields, is_fine, good_fix}
use Rattle.rules.proofs.Inverse.{false_true, refuses_says, given_inv, need_inv, then_inv}
use Rattle.rules_trips.proofs.Laws.{past, byte_there, byte_here}
use Rattle.rules_trips.proofs.Texts.{are_valid, both_valid, valid_low}
use Rattle.rules_trips.proofs.Times.{time_trip}
use Rattle.rules_trips.proofs.Positions.{either_valid, latitude_trip, longitude_trip}
use Rattle.rules_trips.proofs.Altitudes.{altitude_trip}
use Rattle.rules_trips.proofs.Same.{fix_tells}
use Rattle.rules_trips.proofs.LineTrip.{LineTrip, is_good, said_from, through}
use Rattle.rules_trips.proofs.Columned.{Passed, Fronted, fields_trip}
use Rattle.rules_trips.proofs.Refined.{AreSplit, fields_of_fix, fix_of_fields, fix_split, splits_there, splits_here, split_fine}

-- ---- the fields

-- what fields that were read say of the line
pub record FieldsThere (l : List ℕ) (f : FixFields) : Type 0 where
  pub at_time : time_at l 1 ≡ Some f.time
  pub at_lat : latitude_at l 7 ≡ Some f.lat
  pub at_lon : longitude_at l 15 ≡ Some f.lon
  pub at_validity : get_or l 24 0 ≡ f.validity
  pub valid : is_either f.validity (code "A") (code "V") ≡ true
  pub at_pressure : altitude_at l 25 ≡ Some f.pressure
  pub at_gnss : altitude_at l 30 ≡ Some f.gnss

pub fields_there : (l : List ℕ) (f : FixFields) → fix_fields l ≡ says f → FieldsThere l f
unfolding fix_fields on
fields_there l f e =
    let t = given_inv (time_at l 1) _ (says f) _ refuses_says e in
    let a = given_inv (latitude_at l 7) _ (says f) _ refuses_says t.2 in
    let o = given_inv (longitude_at l 15) _ (says f) _ refuses_says a.2 in
    let v = need_inv (is_either (get_or l 24 0) (code "A") (code "V")) _ (says f) _ refuses_says o.2 in
    let p = given_inv (altitude_at l 25) _ (says f) _ refuses_says v.1 in
    let g = given_inv (altitude_at l 30) _ (says f) _ refuses_says p.2 in
    let i : record { time = t.0; lat = a.0; lon = o.0; validity = get_or l 24 0; pressure = p.0; gnss = g.0 } ≡ f = cc in
    rw (← i) record {
      at_time = t.1;
      at_lat = a.1;
      at_lon = o.1;
      at_validity = refl;
      valid = v.0;
      at_pressure = p.1;
      at_gnss = g.1;
    }

pub fields_said_lem : (l : List ℕ) (f : FixFields) → FieldsThere l f → fix_fields l ≡ says f
unfolding fix_fields on
fields_said_lem l f w = simp (w.at_time, w.at_lat, w.at_lon, w.at_validity, w.valid, w.at_pressure, w.at_gnss)

-- what the limits say
record FixWithin (f : FixFields) : Type 0 where
  time : is_time f.time ≡ true
  lat : is_latitude f.lat ≡ true
  lon : is_longitude f.lon ≡ true
  valid : is_either f.validity (code "A") (code "V") ≡ true
  pressure : is_altitude f.pressure ≡ true
  gnss : is_altitude f.gnss ≡ true

fix_within_lem : (f : FixFields) → good_fix_fields f ≡ true → FixWithin f
unfolding good_fix_fields
fix_within_lem f e =
    let t = need_inv (is_time f.time) false true _ false_true e in
    let a = need_inv (is_latitude f.lat) false true _ false_true t.1 in
    let o = need_inv (is_longitude f.lon) false true _ false_true a.1 in
    let v = need_inv (is_either f.validity (code "A") (code "V")) false true _ false_true o.1 in
    let p = need_inv (is_altitude f.pressure) false true _ false_true v.1 in
    record { time = t.0; lat = a.0; lon = o.0; valid = v.0; pressure = p.0; gnss = p.1 }

limits : (l : List ℕ) (f : FixFields) → FieldsThere l f → good_fix_fields f ≡ true
unfolding good_fix_fields
limits l f w =
    simp (time_trip.limits l 1 _ w.at_time, latitude_trip.limits l 7 _ w.at_lat, longitude_trip.limits l 15 _ w.at_lon, w.valid, altitude_trip.limits l 25 _ w.at_pressure, altitude_trip.limits l 30 _ w.at_gnss)

letter_valid : (f : FixFields) → is_either f.validity (code "A") (code "V") ≡ true → is_valid false f.validity ≡ true
unfolding is_valid
letter_valid f e = either_valid f.validity (code "A") (code "V") refl refl e

-- ---- the line

passed_there : (layout : Layout) (l : List ℕ) (f : FixFields) → b_line layout l ≡ says f → Passed family.B FieldsThere layout l f
unfolding b_line
passed_there layout l f e =
    let s = then_inv (shaped_by 36 layout l) f _ e in
    let x = then_inv (fix_fields l) f _ s.2 in
    let c = then_inv (columns (at_limit x.0) l layout) f _ x.2 in
    let i : x.0 ≡ f = cc in
    record { shape = s.1; fields = fields_there l f (x.1 ∙ ap says i); ruled = ap (λ v. columns (at_limit v) l layout) (sym i) ∙ c.1 }

passed_said : (layout : Layout) (l : List ℕ) (f : FixFields) → Passed family.B FieldsThere layout l f → b_line layout l ≡ says f
unfolding b_line
passed_said layout l f w = simp (w.shape, fields_said_lem l f w.fields, w.ruled)

text_clean : (f : FixFields) → FixWithin f → are_valid (fields_text f []) ≡ true
unfolding fields_text are_valid is_valid
text_clean f w =
    let p = both_valid (altitude_text f.pressure) _ (altitude_trip.clean _ w.pressure) (both_valid (altitude_text f.gnss) [] (altitude_trip.clean _ w.gnss) refl) in
    both_valid (time_text f.time) _ (time_trip.clean _ w.time)
    (both_valid (latitude_text f.lat) _ (latitude_trip.clean _ w.lat)
    (both_valid (longitude_text f.lon) _ (longitude_trip.clean _ w.lon) (rw (letter_valid f w.valid) p)))

text_there : (l : List ℕ) (f : FixFields) → get_or l 0 0 ≡ code "B" → FieldsThere l f → l ≡ fields_text f (drop 35 l)
unfolding fields_text
text_there l f k x =
    byte_there l 0 1 (code "B") refl (omega arith) k
    ∙ ap (λ r. code "B" ∷ r) (time_trip.there l 1 7 _ refl x.at_time
    ∙ ap (λ r. time_text f.time ++ r) (latitude_trip.there l 7 15 _ refl x.at_lat
    ∙ ap (λ r. latitude_text f.lat ++ r) (longitude_trip.there l 15 24 _ refl x.at_lon
    ∙ ap (λ r. longitude_text f.lon ++ r) (byte_there l 24 25 _ refl (valid_low _ (letter_valid f x.valid)) x.at_validity
    ∙ ap (λ r. f.validity ∷ r) (altitude_trip.there l 25 30 _ refl x.at_pressure
    ∙ ap (λ r. altitude_text f.pressure ++ r) (altitude_trip.there l 30 35 _ refl x.at_gnss))))))

text_here : (f : FixFields) (tail : List ℕ) → FixWithin f → FieldsThere (fields_text f tail) f
unfolding fields_text
text_here f tail w =
    let l : List ℕ = fields_text f tail in
    let e₂ = past l 1 6 7 (time_text f.time) _ (time_trip.long _) refl refl in
    let e₃ = past l 7 8 15 (latitude_text f.lat) _ (latitude_trip.long _) refl e₂ in
    let e₄ = past l 15 9 24 (longitude_text f.lon) _ (longitude_trip.long _) refl e₃ in
    let e₅ = past l 24 1 25 (f.validity ∷ []) _ refl refl e₄ in
    let e₆ = past l 25 5 30 (altitude_text f.pressure) _ (altitude_trip.long _) refl e₅ in
    record {
      at_time = time_trip.here l 1 _ _ w.time refl;
      at_lat = latitude_trip.here l 7 _ _ w.lat e₂;
      at_lon = longitude_trip.here l 15 _ _ w.lon e₃;
      at_validity = byte_here l 24 f.validity _ e₄;
      valid = w.valid;
      at_pressure = altitude_trip.here l 25 _ _ w.pressure e₅;
      at_gnss = altitude_trip.here l 30 _ tail w.gnss e₆;
    }

pub fix_front : Fronted family.B FieldsThere fields_text good_fix_fields
unfolding fields_text
fix_front = record {
  passes = λ layout l f. (passed_there layout l f, passed_said layout l f);
  begins = λ f tail. refl;
  splits = λ f tail. simp (append_assoc, append-nil);
  long = λ f. simp (length-append, time_trip.long, latitude_trip.long, longitude_trip.long, altitude_trip.long);
  clean = λ f g. text_clean f (fix_within_lem f g);
  there = text_there;
  limits = limits;
  here = λ f tail g. text_here f tail (fix_within_lem f g);
}

-- a line that reads as a fix has its fields
pub fix_fields_lem : (l : List ℕ) (layout : Layout) (f : Fix) → fix_said l layout ≡ says f → fields_said family.B l layout ≡ says (fields_of f)
unfolding fix_said
fix_fields_lem l layout f e = (said_from (λ l. fix_of l (finer_of layout)) fields_of (λ l. fields_of_fix l (finer_of layout)) l (fields_said family.B l layout) f e).0

-- what the writer tests of a fix and a tail: the fields and the tail are good, and the line that they make has the fix's decimals and last digits
module _ (layout : Layout) (f : Fix) (tail : List ℕ) where
  text : List ℕ
  text = fields_text (fields_of f) tail

  whole : text ≡ fields_text (fields_of f) [] ++ tail
  unfolding text
  whole = fix_front.splits (fields_of f) tail

  plain_good : Bool
  plain_good = need (good_fix_fields (fields_of f)) false λ _. good_tail (at_limit (fields_of f)) 36 tail layout

  split_there : good_fix f tail layout ≡ true → (plain_good ≡ true) × (fix_of text (finer_of layout) (fields_of f) ≡ f)
  unfolding good_fix good_tail plain_good
  split_there e =
      let n = need_inv (is_fine f) false true _ false_true e in
      let g = need_inv (good_fix_fields (fields_of f)) false true _ false_true n.1 in
      let t = need_inv (good_tail (at_limit (fields_of f)) 36 tail layout) false true _ false_true g.1 in
      let a = need_inv (allowed 36 layout) false true _ false_true t.0 in
      let w = splits_there layout a.0 (fields_text (fields_of f) []) tail (fix_front.long (fields_of f)) f t.1 in
      (rw g.0 t.0, fix_of_fields text (finer_of layout) f (rw whole w))

  split_here : plain_good ≡ true → fix_of text (finer_of layout) (fields_of f) ≡ f → good_fix f tail layout ≡ true
  unfolding good_fix good_tail plain_good
  split_here e i =
      let g = need_inv (good_fix_fields (fields_of f)) false true _ false_true e in
      let a = need_inv (allowed 36 layout) false true _ false_true g.1 in
      let s : AreSplit text (finer_of layout) f = subst (AreSplit text (finer_of layout)) i (fix_split text (finer_of layout) (fields_of f)) in
      let w = rw whole at s in
      let front = fields_text (fields_of f) [] in
      let long = fix_front.long (fields_of f) in
      rw (split_fine layout a.0 front tail long f w, g.0, g.1) (splits_here layout a.0 front tail long f w)

pub fix_trip : (layout : Layout) → LineTrip (λ l. fix_said l layout) fix_text 35 (λ f tail. good_fix f tail layout)
unfolding fix_said fix_text text plain_good
fix_trip layout =
    through (λ l. fix_of l (finer_of layout)) fields_of (λ l. fields_of_fix l (finer_of layout)) (λ f tail. good_fix f tail layout)
    (λ f tail. (split_there layout f tail, λ h. split_here layout f tail h.0 h.1))
    (fields_trip fix_front layout)

-- a fix and a tail can be written exactly when they keep to their limits
pub fix_good : (f : Fix) (tail : List ℕ) (layout : Layout) → is_fix f tail layout ≡ good_fix f tail layout
unfolding is_fix
fix_good f tail layout = is_good (fix_trip layout) same_fix fix_tells f tail
