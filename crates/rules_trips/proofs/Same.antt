-- The tests of equal values: each holds of two values exactly when they are one. Assumes nothing.
use Rattle.rules.specs.declared.Date.{Date}
use Rattle.std.specs.Prelude.{None, Option, Some}
use mathlib.Core.Bool.{Bool, true, ◌&&◌}
use mathlib.Core.Path.{◌≡◌, refl, ap}
use mathlib.Core.Logic.{◌↔◌}
use borrow.Author.Tests.{eqb-true, eq-eqb}
use lib.Dec.{eqb}
use lib.IntN.{ℤ, pos, negsuc}
use Rattle.rules.specs.Refusals.{Said, says, refuses}
use Rattle.rules.specs.Writes.{same_integer, same_position, same_fine_position, same_fix, same_date, same_planned, same_head, same_point, reads}
use Rattle.rules.proofs.Inverse.{false_true, and_inv}

-- `same` tells equality
pub record Tells {A : Type 0} (same : A → A → Bool) : Type 0 where
  pub itself : (a : A) → same a a ≡ true
  pub one : (a b : A) → same a b ≡ true → a ≡ b

pub number_tells : Tells eqb
number_tells = record { itself = λ n. eq-eqb n n refl; one = eqb-true }

pub integer_tells : Tells same_integer
integer_tells = record { itself = itself; one = one }
  where
    itself : (z : ℤ) → same_integer z z ≡ true
    itself (pos n) = eq-eqb n n refl
    itself (negsuc n) = eq-eqb n n refl

    one : (y z : ℤ) → same_integer y z ≡ true → y ≡ z
    one (pos m) (pos n) e = ap pos (eqb-true m n e)
    one (pos m) (negsuc n) e = absurd (false_true e)
    one (negsuc m) (pos n) e = absurd (false_true e)
    one (negsuc m) (negsuc n) e = ap negsuc (eqb-true m n e)

pub position_tells : Tells same_position
position_tells = record {
  itself = λ p. simp (eq-eqb p.count p.count refl, eq-eqb p.letter p.letter refl);
  one = λ p q e.
      let t = and_inv (eqb p.count q.count) _ e in
      let c = eqb-true _ _ t.0 in
      let l = eqb-true _ _ t.1 in
      λ i. record { count = c i; letter = l i };
}

pub point_tells : Tells same_point
unfolding same_point
point_tells = record {
  itself = λ p. simp (position_tells.itself p.lat, position_tells.itself p.lon);
  one = λ p q e.
      let t = and_inv (same_position p.lat q.lat) _ e in
      let a = position_tells.one _ _ t.0 in
      let o = position_tells.one _ _ t.1 in
      λ i. record { lat = a i; lon = o i };
}

pub date_tells : Tells same_date
date_tells = record {
  itself = λ d. simp (eq-eqb d.day d.day refl, eq-eqb d.month d.month refl, eq-eqb d.year d.year refl);
  one = λ d f e.
      let y = and_inv (eqb d.day f.day && eqb d.month f.month) _ e in
      let m = and_inv (eqb d.day f.day) _ y.0 in
      let a = eqb-true _ _ m.0 in
      let b = eqb-true _ _ m.1 in
      let c = eqb-true _ _ y.1 in
      λ i. record { day = a i; month = b i; year = c i };
}

pub planned_tells : Tells same_planned
planned_tells = record { itself = itself; one = one }
  where
    itself : (f : Option Date) → same_planned f f ≡ true
    itself (Some d) = date_tells.itself d
    itself None = refl

    one : (f g : Option Date) → same_planned f g ≡ true → f ≡ g
    one (Some d) (Some e) t = ap Some (date_tells.one d e t)
    one (Some d) None t = absurd (false_true t)
    one None (Some e) t = absurd (false_true t)
    one None None t = refl

pub head_tells : Tells same_head
unfolding same_head
head_tells = record {
  itself = λ h. simp (date_tells.itself h.declared, eq-eqb h.time h.time refl, planned_tells.itself h.flight, eq-eqb h.task h.task refl, eq-eqb h.turns h.turns refl);
  one = λ h k e.
      let t₅ = and_inv (same_date h.declared k.declared && eqb h.time k.time && same_planned h.flight k.flight && eqb h.task k.task) _ e in
      let t₄ = and_inv (same_date h.declared k.declared && eqb h.time k.time && same_planned h.flight k.flight) _ t₅.0 in
      let t₃ = and_inv (same_date h.declared k.declared && eqb h.time k.time) _ t₄.0 in
      let t₂ = and_inv (same_date h.declared k.declared) _ t₃.0 in
      let d = date_tells.one _ _ t₂.0 in
      let t = eqb-true _ _ t₂.1 in
      let f = planned_tells.one _ _ t₃.1 in
      let n = eqb-true _ _ t₄.1 in
      let p = eqb-true _ _ t₅.1 in
      λ i. record { declared = d i; time = t i; flight = f i; task = n i; turns = p i };
}

pub fine_tells : Tells same_fine_position
fine_tells = record {
  itself = λ p. simp (eq-eqb p.count p.count refl, eq-eqb p.letter p.letter refl, eq-eqb p.decimals p.decimals refl);
  one = λ p q e.
      let d = and_inv (eqb p.count q.count && eqb p.letter q.letter) _ e in
      let t = and_inv (eqb p.count q.count) _ d.0 in
      let c = eqb-true _ _ t.0 in
      let l = eqb-true _ _ t.1 in
      let n = eqb-true _ _ d.1 in
      λ i. record { count = c i; letter = l i; decimals = n i };
}

pub fix_tells : Tells same_fix
unfolding same_fix
fix_tells = record {
  itself = λ f. simp (
    eq-eqb f.time.count f.time.count refl,
    eq-eqb f.time.decimals f.time.decimals refl,
    fine_tells.itself f.lat,
    fine_tells.itself f.lon,
    eq-eqb f.validity f.validity refl,
    integer_tells.itself f.pressure.metres,
    integer_tells.itself f.gnss.metres,
  );
  one = λ f g e.
      let t₇ = and_inv (eqb f.time.count g.time.count && eqb f.time.decimals g.time.decimals && same_fine_position f.lat g.lat && same_fine_position f.lon g.lon && eqb f.validity g.validity && same_integer f.pressure.metres g.pressure.metres) _ e in
      let t₆ = and_inv (eqb f.time.count g.time.count && eqb f.time.decimals g.time.decimals && same_fine_position f.lat g.lat && same_fine_position f.lon g.lon && eqb f.validity g.validity) _ t₇.0 in
      let t₅ = and_inv (eqb f.time.count g.time.count && eqb f.time.decimals g.time.decimals && same_fine_position f.lat g.lat && same_fine_position f.lon g.lon) _ t₆.0 in
      let t₄ = and_inv (eqb f.time.count g.time.count && eqb f.time.decimals g.time.decimals && same_fine_position f.lat g.lat) _ t₅.0 in
      let t₃ = and_inv (eqb f.time.count g.time.count && eqb f.time.decimals g.time.decimals) _ t₄.0 in
      let t₂ = and_inv (eqb f.time.count g.time.count) _ t₃.0 in
      let t = eqb-true _ _ t₂.0 in
      let d = eqb-true _ _ t₂.1 in
      let a = fine_tells.one _ _ t₃.1 in
      let o = fine_tells.one _ _ t₄.1 in
      let v = eqb-true _ _ t₅.1 in
      let p = integer_tells.one _ _ t₆.1 in
      let n = integer_tells.one _ _ t₇.1 in
      λ i. record { time = record { count = t i; decimals = d i }; lat = a i; lon = o i; validity = v i; pressure = record { metres = p i }; gnss = record { metres = n i } };
}

-- a reading says a value exactly when the test says so
pub reads_says : {A : Type 0} (same : A → A → Bool) → Tells same → (s : Said A) (v : A) → (reads same s v ≡ true) ↔ (s ≡ says v)
reads_says same t s v = (there s, λ e. rw e (t.itself v))
  where
    there : (s : Said _) → reads same s v ≡ true → s ≡ says v
    there (says w) e = ap says (t.one w v e)
    there (refuses n l b) e = absurd (false_true e)
