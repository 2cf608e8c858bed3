-- The limits of a time, a position, an altitude and so of a fix, in document 01's words. Assumes nothing.
use Prim.Native.Nat.{ℕ, zero, suc, ◌+◌, ◌/◌, ◌%◌, ◌≤◌}
use mathlib.Core.Bool.{Bool, true, false, ◌||◌, or-true}
use mathlib.Core.Logic.{◌↔◌, ◌⊎◌, inl, inr}
use mathlib.Core.Path.{◌≡◌, refl, ap, ◌∙◌}
use native.Mathlib.Omega.{arith}
use borrow.Author.Tests.{le-leb, leb-true, eqb-true, eqb-false, eq-eqb}
use lib.Dec.{eqb, leb}
use lib.IntN.{ℤ, pos, negsuc, neg_ℤ}
use Rattle.rules.specs.Fields.{is_either}
use Rattle.rules.specs.Degrees.{is_position, is_latitude, is_longitude}
use Rattle.rules.specs.Limits.{is_time, is_metres, is_altitude, good_fix_fields}
use Rattle.rules.specs.declared.Position.{Position}
use Rattle.rules.specs.declared.Height.{Height}
use Rattle.rules.specs.declared.FixFields.{FixFields}
use Rattle.rules.proofs.Inverse.{false_true, and_inv, need_inv}
use Rattle.grammar_words.specs.Values.{IsTime, usual, leap, IsLatitude, IsLongitude, IsAltitude, plain, minus, IsFixFields}

-- ---- one of two letters

pub either_exactly : (x a b : ℕ) → (is_either x a b ≡ true) ↔ ((x ≡ a) ⊎ (x ≡ b))
unfolding is_either
either_exactly x a b = (there (eqb x a) (eqb x b) refl refl, here)
  where
    there : (s t : Bool) → eqb x a ≡ s → eqb x b ≡ t → (s || t) ≡ true → (x ≡ a) ⊎ (x ≡ b)
    there true t p q e = inl (eqb-true x a p)
    there false true p q e = inr (eqb-true x b q)
    there false false p q e = absurd (false_true e)

    here : (x ≡ a) ⊎ (x ≡ b) → (eqb x a || eqb x b) ≡ true
    here (inl h) = rw (eq-eqb x a h)
    here (inr h) = rw (eq-eqb x b h) (or-true (eqb x a))

-- ---- times and positions

pub time_exactly : (t : ℕ) → (is_time t ≡ true) ↔ IsTime t
time_exactly t = (λ e. there (leb-true t 86400 e) (eqb t 86400) refl, λ w. le-leb t 86400 (here w))
  where
    there : t ≤ 86400 → (b : Bool) → eqb t 86400 ≡ b → IsTime t
    there h true q = leap (eqb-true t 86400 q)
    there h false q =
        let n = eqb-false t 86400 q in
        usual (t / 3600) (t / 60 % 60) (t % 60) (omega (arith, n)) (omega arith) (omega arith) (omega arith)

    here : IsTime t → t ≤ 86400
    here (usual h m x p q r e) = omega arith
    here (leap e) = omega arith

position_exactly : (most a b : ℕ) (p : Position) → (is_position most a b p ≡ true) ↔ ((p.count ≤ most) × ((p.letter ≡ a) ⊎ (p.letter ≡ b)))
unfolding is_position
position_exactly most a b p = (
  λ e. let h = and_inv (leb p.count most) _ e in (leb-true _ _ h.0, (either_exactly _ a b).0 h.1),
  λ h. rw (le-leb _ _ h.0) ((either_exactly _ a b).1 h.1),
)

pub latitude_exactly : (p : Position) → (is_latitude p ≡ true) ↔ IsLatitude p
latitude_exactly p = let x = position_exactly _ _ _ p in (λ e. let h = x.0 e in record { most = h.0; letter = h.1 }, λ w. x.1 (w.most, w.letter))

pub longitude_exactly : (p : Position) → (is_longitude p ≡ true) ↔ IsLongitude p
longitude_exactly p = let x = position_exactly _ _ _ p in (λ e. let h = x.0 e in record { most = h.0; letter = h.1 }, λ w. x.1 (w.most, w.letter))

-- ---- altitudes

pub altitude_exactly : (h : Height) → (is_altitude h ≡ true) ↔ IsAltitude h
unfolding is_altitude
altitude_exactly h = (there h.metres refl, here)
  where
    there : (z : ℤ) → h.metres ≡ z → is_metres z ≡ true → IsAltitude h
    there (pos n) q e = plain n q (leb-true _ _ e)
    there (negsuc n) q e = let k : n + 1 ≤ 9999 = leb-true _ _ e in minus (suc n) q (omega arith) (omega arith)

    below : (n : ℕ) → 1 ≤ n → n ≤ 9999 → is_metres (neg_ℤ (pos n)) ≡ true
    below zero p q = absurd (omega arith)
    below (suc n) p q = le-leb (n + 1) 9999 (omega arith)

    here : IsAltitude h → is_metres h.metres ≡ true
    here (plain n q m) = ap is_metres q ∙ le-leb n 99999 m
    here (minus n q l m) = ap is_metres q ∙ below n l m

-- ---- the fields of a fix

pub fix_exactly : (f : FixFields) → (good_fix_fields f ≡ true) ↔ IsFixFields f
unfolding good_fix_fields
fix_exactly f = (there, here)
  where
    there : good_fix_fields f ≡ true → IsFixFields f
    there e =
        let a = need_inv (is_time f.time) false true _ false_true e in
        let b = need_inv (is_latitude f.lat) false true _ false_true a.1 in
        let c = need_inv (is_longitude f.lon) false true _ false_true b.1 in
        let d = need_inv (is_either f.validity 65 86) false true _ false_true c.1 in
        let p = need_inv (is_altitude f.pressure) false true _ false_true d.1 in
        record {
          time = (time_exactly _).0 a.0;
          lat = (latitude_exactly _).0 b.0;
          lon = (longitude_exactly _).0 c.0;
          validity = (either_exactly _ _ _).0 d.0;
          pressure = (altitude_exactly _).0 p.0;
          gnss = (altitude_exactly _).0 p.1;
        }

    here : IsFixFields f → good_fix_fields f ≡ true
    here w =
        rw ((time_exactly _).1 w.time, (latitude_exactly _).1 w.lat, (longitude_exactly _).1 w.lon, (either_exactly _ _ _).1 w.validity, (altitude_exactly _).1 w.pressure) ((altitude_exactly _).1 w.gnss)
