-- Counts with extra decimals, the degrees of a position, and the columns at a limit, in the documents' words. Assumes nothing.
use Prim.Native.Nat.{ℕ, ◌*◌, ◌^◌, ◌%◌, ◌≤◌, ◌<◌}
use Prim.Native.Char.{code}
use mathlib.Core.Bool.{Bool, true, false, not, ◌&&◌, cond}
use mathlib.Core.List.{List, [], ◌∷◌}
use mathlib.Core.Logic.{◌↔◌, ◌⊎◌, inl, inr}
use mathlib.Core.Path.{◌≡◌, refl, sym, ap, ◌∙◌, subst}
use native.Mathlib.Nat.{one-le-pow, mod-lt, mul-add-div_right, div-eq_of_lt, div-add-mod'}
use native.Mathlib.Omega.{arith}
use borrow.Author.Tests.{le-leb, leb-true, eqb-true, eqb-false, eq-eqb}
use lib.Dec.{eqb, leb}
use lib.IntN.{pos}
use lib.Ieee.{Float, fin, neg}
use Rattle.rules.specs.Choice.{leads, bytes}
use Rattle.rules.specs.Fields.{is_either}
use Rattle.rules.specs.Degrees.{quotient, is_negated, angle, is_fine_position, is_fine_latitude, is_fine_longitude}
use Rattle.rules.specs.Listed.{packed_of, code_text, keeps_limit, off_limit, is_zeros, lad, lod}
use Rattle.rules.specs.Lines.{at_limit}
use Rattle.rules.specs.Fixes.{plain}
use Rattle.rules.specs.declared.AtLimit.{AtLimit}
use Rattle.rules.specs.declared.FinePosition.{FinePosition}
use Rattle.rules.specs.declared.FixFields.{FixFields}
use Rattle.rules.proofs.Inverse.{false_true, and_inv, need_inv}
use Rattle.rules_laws.proofs.Settled.{zero_plain}
use Rattle.rules_trips.proofs.AtLimits.{AtLimits, limits_exactly}
use Rattle.rules_sound.proofs.Entries.{packed_back}
use Rattle.grammar_words.specs.Codes.{RowSays, Holds}
use Rattle.grammar_words.specs.Finer.{IsPlain, IsFineLatitude, IsFineLongitude, in_degrees, IsAngle, nought, negated, as_it_is, OnlyZeros, Zeros, AtLatitude, AtLongitude}
use Rattle.grammar_words.specs.Finer as finer
use Rattle.grammar_words.proofs.Values.{either_exactly}
use Rattle.grammar_words.proofs.Codes.{rule_exactly}

-- ---- the plain count

pub plain_exactly : (count decimals old : ℕ) → (plain count decimals ≡ old) ↔ IsPlain count decimals old
unfolding plain
plain_exactly count decimals old =
    let p : 0 < 10 ^ decimals = one-le-pow decimals 10 (omega arith) in (
      λ e. record { digits = count % 10 ^ decimals; few = mod-lt count p; is = rw (← e) (sym (div-add-mod' count (10 ^ decimals))) },
      λ w. rw (w.is, mul-add-div_right p old w.digits, div-eq_of_lt w.few) (omega arith),
    )

-- ---- positions

fine_exactly : (most a b : ℕ) (p : FinePosition) → (is_fine_position most a b p ≡ true) ↔ ((p.decimals ≤ 4) × (p.count ≤ most * 10 ^ p.decimals) × ((p.letter ≡ a) ⊎ (p.letter ≡ b)))
unfolding is_fine_position
fine_exactly most a b p = (
  λ e. let d = need_inv (leb p.decimals 4) false true _ false_true e in let h = and_inv (leb p.count (most * 10 ^ p.decimals)) _ d.1 in (leb-true _ _ d.0, leb-true _ _ h.0, (either_exactly _ a b).0 h.1),
  λ h. rw (le-leb _ _ h.0, le-leb _ _ h.1) ((either_exactly _ a b).1 h.2),
)

pub fine_latitude_exactly : (p : FinePosition) → (is_fine_latitude p ≡ true) ↔ IsFineLatitude p
fine_latitude_exactly p = let x = fine_exactly _ _ _ p in (λ e. let h = x.0 e in record { few = h.0; most = h.1; letter = h.2 }, λ w. x.1 (w.few, w.most, w.letter))

pub fine_longitude_exactly : (p : FinePosition) → (is_fine_longitude p ≡ true) ↔ IsFineLongitude p
fine_longitude_exactly p = let x = fine_exactly _ _ _ p in (λ e. let h = x.0 e in record { few = h.0; most = h.1; letter = h.2 }, λ w. x.1 (w.few, w.most, w.letter))

-- ---- degrees

-- 0 over any of these powers is plain zero
zero_degrees : (p : FinePosition) → p.count ≡ 0 → in_degrees p ≡ fin false 0 (pos 0)
unfolding angle is_negated quotient
zero_degrees p e = ap (λ c. in_degrees (record { count = c; letter = p.letter; decimals = p.decimals })) e ∙ zero_plain p.letter p.decimals

angle_is : (p : FinePosition) → IsAngle p (angle p)
unfolding angle is_negated quotient
angle_is p = go (eqb p.count 0) refl (is_either p.letter (code "S") (code "W")) refl
  where
    least : eqb p.count 0 ≡ false → 1 ≤ p.count
    least e = let n = eqb-false p.count 0 e in omega (arith, n)

    go : (z : Bool) → eqb p.count 0 ≡ z → (b : Bool) → is_either p.letter (code "S") (code "W") ≡ b → IsAngle p (cond (not z && b) (neg (in_degrees p)) (in_degrees p))
    go true e b h = let z = eqb-true p.count 0 e in subst (IsAngle p) (sym (zero_degrees p z)) (nought z)
    go false e true h = negated (least e) ((either_exactly _ _ _).0 h)
    go false e false h =
        let no : ((p.letter ≡ code "S") ⊎ (p.letter ≡ code "W")) → ⊥ = λ w. false_true (sym h ∙ (either_exactly _ _ _).1 w) in
        as_it_is (least e) (λ s. no (inl s)) (λ w. no (inr w))

-- there is one such number
angle_once : (p : FinePosition) {x y : Float} → IsAngle p x → IsAngle p y → x ≡ y
angle_once p (nought a) (nought b) = refl
angle_once p (nought a) (negated b w) = absurd (omega arith)
angle_once p (nought a) (as_it_is b s w) = absurd (omega arith)
angle_once p (negated a w) (nought b) = absurd (omega arith)
angle_once p (negated a w) (negated b v) = refl
angle_once p (negated a (inl w)) (as_it_is b s v) = absurd (s w)
angle_once p (negated a (inr w)) (as_it_is b s v) = absurd (v w)
angle_once p (as_it_is a s w) (nought b) = absurd (omega arith)
angle_once p (as_it_is a s v) (negated b (inl w)) = absurd (s w)
angle_once p (as_it_is a s v) (negated b (inr w)) = absurd (v w)
angle_once p (as_it_is a s w) (as_it_is b t v) = refl

pub angle_exactly : (p : FinePosition) (x : Float) → (angle p ≡ x) ↔ IsAngle p x
angle_exactly p x = (λ e. subst (IsAngle p) e (angle_is p), angle_once p (angle_is p))

-- ---- columns at a limit

zeros_exactly : (t : List ℕ) → (is_zeros t ≡ true) ↔ Zeros t
unfolding is_zeros leads
zeros_exactly [] = (λ e. tt, λ h. refl)
zeros_exactly (b ∷ t) = (
  λ e. let h = and_inv (eqb b 48) _ e in (eqb-true b 48 h.0, (zeros_exactly t).0 h.1),
  λ h. rw (eq-eqb b 48 h.0) ((zeros_exactly t).1 h.1),
)

-- a code by its name
named : (x : ℕ) (name : List ℕ) → code_text x ≡ name → x ≡ packed_of name
named x name e = sym (packed_back x) ∙ ap packed_of e

pub limit_exactly : (at : AtLimit) (AtLat AtLon : Type 0) → (at.lat ≡ true) ↔ AtLat → (at.lon ≡ true) ↔ AtLon → (x : ℕ) (t : List ℕ)
    → (keeps_limit at x t ≡ true) ↔ (RowSays x (λ p. Holds p.name t) × (OnlyZeros AtLat AtLon (code_text x) → Zeros t))
unfolding bytes
limit_exactly at AtLat AtLon a o x t = (λ e. let w = (limits_exactly at x t).0 e in ((rule_exactly x t).0 w.rule, there w), λ h. (limits_exactly at x t).1 (here h.0 h.1))
  where
    there : AtLimits at x t → OnlyZeros AtLat AtLon (code_text x) → Zeros t
    there w (finer.lad n c) = (zeros_exactly t).0 (w.lat (a.1 c) (named x _ n))
    there w (finer.lod n c) = (zeros_exactly t).0 (w.lon (o.1 c) (named x _ n))

    here : RowSays x (λ p. Holds p.name t) → (OnlyZeros AtLat AtLon (code_text x) → Zeros t) → AtLimits at x t
    here r z = record {
      rule = (rule_exactly x t).1 r;
      lat = λ c n. (zeros_exactly t).1 (z (finer.lad (ap code_text n) (a.0 c)));
      lon = λ c n. (zeros_exactly t).1 (z (finer.lod (ap code_text n) (o.0 c)));
    }

-- which coordinates of a B line are at their limit
pub at_limit_exactly : (f : FixFields) → (((at_limit f).lat ≡ true) ↔ AtLatitude f) × (((at_limit f).lon ≡ true) ↔ AtLongitude f)
unfolding at_limit
at_limit_exactly f = ((eqb-true _ _, eq-eqb _ _), (eqb-true _ _, eq-eqb _ _))

-- a K or an N line has none
pub off_limit_exactly : ((off_limit.lat ≡ true) ↔ ⊥) × ((off_limit.lon ≡ true) ↔ ⊥)
off_limit_exactly = ((false_true, λ z. absurd z), (false_true, λ z. absurd z))
