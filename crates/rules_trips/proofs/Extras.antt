-- A K or an N line both ways: with its layout it reads as a time exactly when it is that time's own line, and its tail is what the layout gives. Assumes nothing.
use Rattle.std.specs.Prelude.{Some}
use Prim.Native.Nat.{ℕ, ◌<◌}
use mathlib.Core.Bool.{true}
use mathlib.Core.List.{List, [], ◌∷◌, append-nil}
use mathlib.Core.Path.{◌≡◌, refl, ◌∙◌, ap}
use native.Mathlib.Omega.{arith}
use lib.Dec.{eqb}
use Rattle.rules.specs.Families.{line_letter}
use Rattle.rules.specs.Refusals.{says}
use Rattle.rules.specs.Chars.{is_valid}
use Rattle.rules.specs.Fields.{time_at, time_text}
use Rattle.rules.specs.Listed.{off_limit}
use Rattle.rules.specs.Layouts.{columns}
use Rattle.rules.specs.Lines.{shaped_by, extra_line}
use Rattle.rules.specs.Reads.{extra_said}
use Rattle.rules.specs.Writes.{extra_text, is_extra}
use Rattle.rules.specs.declared.Layout.{Layout}
use Rattle.rules.specs.declared.Extra.{Extra}
use Rattle.rules.specs.declared.Extra.TheVariants as extra
use Rattle.rules.specs.declared.Family.TheVariants as family
use Rattle.rules.specs.Limits.{is_time, good_extra}
use Rattle.rules.proofs.Inverse.{refuses_says, given_inv, then_inv}
use Rattle.rules_trips.proofs.Laws.{byte_there}
use Rattle.rules_trips.proofs.Texts.{are_valid, both_valid}
use Rattle.rules_trips.proofs.Times.{time_trip}
use Rattle.rules_trips.proofs.Same.{number_tells}
use Rattle.rules_trips.proofs.LineTrip.{LineTrip, is_good}
use Rattle.rules_trips.proofs.Columned.{Passed, Fronted, fields_trip}

abbrev letter : Extra → ℕ
letter x = line_letter (family.Extra x)

valid_letter : (x : Extra) (l : List ℕ) → are_valid l ≡ true → are_valid (letter x ∷ l) ≡ true
unfolding are_valid is_valid
valid_letter extra.K l h = h
valid_letter extra.N l h = h

letter_there : (x : Extra) → 0 < letter x
letter_there extra.K = omega arith
letter_there extra.N = omega arith

abbrev TimeThere : List ℕ → ℕ → Type 0
TimeThere l t = time_at l 1 ≡ Some t

module _ (x : Extra) where
  passed_there : (layout : Layout) (l : List ℕ) (t : ℕ) → extra_line layout l ≡ says t → Passed (family.Extra x) TimeThere layout l t
  unfolding extra_line
  passed_there layout l t e =
      let s = then_inv (shaped_by 8 layout l) t _ e in
      let y = given_inv (time_at l 1) _ (says t) _ refuses_says s.2 in
      let c = then_inv (columns off_limit l layout) t _ y.2 in
      let i : y.0 ≡ t = cc in
      record { shape = s.1; fields = y.1 ∙ ap Some i; ruled = c.1 }

  passed_said : (layout : Layout) (l : List ℕ) (t : ℕ) → Passed (family.Extra x) TimeThere layout l t → extra_line layout l ≡ says t
  unfolding extra_line
  passed_said layout l t w = simp (w.shape, w.fields, w.ruled)

  pub extra_front : Fronted (family.Extra x) TimeThere (extra_text x) is_time
  unfolding extra_text are_valid
  extra_front = record {
    passes = λ layout l t. (passed_there layout l t, passed_said layout l t);
    begins = λ t tail. refl;
    splits = λ t tail. simp append-nil;
    long = λ t. simp (append-nil, time_trip.long);
    clean = λ t h. both_valid (letter x ∷ time_text t) [] (valid_letter x (time_text t) (time_trip.clean t h)) refl;
    there = λ l t k w. byte_there l 0 1 (letter x) refl (letter_there x) k ∙ ap (λ y. letter x ∷ y) (time_trip.there l 1 7 t refl w);
    limits = λ l t w. time_trip.limits l 1 t w;
    here = λ t tail h. time_trip.here (extra_text x t tail) 1 t tail h refl;
  }

  pub extra_trip : (layout : Layout) → LineTrip (λ l. extra_said x l layout) (extra_text x) 7 (λ t tail. good_extra t tail layout)
  unfolding extra_said good_extra
  extra_trip layout = fields_trip extra_front layout

  -- a time and a tail can be written exactly when they keep to their limits
  pub extra_good : (t : ℕ) (tail : List ℕ) (layout : Layout) → is_extra x t tail layout ≡ good_extra t tail layout
  unfolding is_extra
  extra_good t tail layout = is_good (extra_trip layout) eqb number_tells t tail
