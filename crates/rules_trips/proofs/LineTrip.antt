-- A line both ways, whatever line it is: what `LineTrip` asks of a reader and a text, and what follows from it for the writers. Assumes nothing.
use Prim.Native.Nat.{ℕ}
use mathlib.Core.Bool.{Bool, true}
use mathlib.Core.List.{List}
use mathlib.Core.Path.{◌≡◌, sym, ◌∙◌, ap}
use mathlib.Core.Logic.{◌↔◌}
use lib.ListN.{drop}
use Rattle.rules.specs.Refusals.{Said, says, and_then}
use Rattle.rules.specs.Writes.{reads}
use Rattle.rules.proofs.Inverse.{bool_eq, then_inv}
use Rattle.rules_trips.proofs.Same.{Tells, reads_says}

-- A line reads as a value exactly when it is the value's own line, the value being good with what stands behind its fields, past `head` bytes.
pub record LineTrip {A : Type 0} (said : List ℕ → Said A) (text : A → List ℕ → List ℕ) (head : ℕ) (good : A → List ℕ → Bool) : Type 0 where
  pub there : (l : List ℕ) (v : A) → said l ≡ says v → l ≡ text v (drop head l)
  pub behind : (v : A) (rest : List ℕ) → drop head (text v rest) ≡ rest
  pub limits : (v : A) (rest : List ℕ) → said (text v rest) ≡ says v → good v rest ≡ true
  pub here : (v : A) (rest : List ℕ) → good v rest ≡ true → said (text v rest) ≡ says v

module _ {A : Type 0} {said : List ℕ → Said A} {text : A → List ℕ → List ℕ} {head : ℕ} {good : A → List ℕ → Bool} (trip : LineTrip said text head good) where
  -- what is read is good
  pub line_limits : (l : List ℕ) (v : A) → said l ≡ says v → good v (drop head l) ≡ true
  line_limits l v e = trip.limits v (drop head l) (rw (← trip.there l v e) e)

  module _ (same : A → A → Bool) (tells : Tells same) (v : A) (rest : List ℕ) where
    -- the writers' test is that the value's own line reads as it
    own : (reads same (said (text v rest)) v ≡ true) ↔ (said (text v rest) ≡ says v)
    own = reads_says same tells (said (text v rest)) v

    -- it holds exactly when the values are good
    pub is_good : reads same (said (text v rest)) v ≡ good v rest
    is_good = bool_eq _ _ (λ e. trip.limits v rest (own.0 e)) (λ g. own.1 (trip.here v rest g))

-- ---- values that others are made of, with the line

module _ {A B : Type 0} (to : List ℕ → A → B) (from : B → A) (back : (l : List ℕ) (v : A) → from (to l v) ≡ v) where
  -- what is said as w is said of the value that w is made of, and the line makes w of it
  pub said_from : (l : List ℕ) (s : Said A) (w : B) → (and_then s λ v. says (to l v)) ≡ says w → (s ≡ says (from w)) × (to l (from w) ≡ w)
  said_from l s w e =
      let r = then_inv s w _ e in
      let i : to l r.0 ≡ w = cc in
      let j : r.0 ≡ from w = sym (back l r.0) ∙ ap from i in
      (r.1 ∙ ap says j, ap (to l) (sym j) ∙ i)

  -- and the trip is one where the good are those that their own lines make
  pub through : {said : List ℕ → Said A} {text : A → List ℕ → List ℕ} {head : ℕ} {good : A → List ℕ → Bool} (fine : B → List ℕ → Bool)
      → ((w : B) (rest : List ℕ) → (fine w rest ≡ true) ↔ ((good (from w) rest ≡ true) × (to (text (from w) rest) (from w) ≡ w)))
      → LineTrip said text head good
      → LineTrip (λ l. and_then (said l) λ v. says (to l v)) (λ w. text (from w)) head fine
  through fine exactly trip = record {
    there = λ l w e. trip.there l (from w) (said_from l _ w e).0;
    behind = λ w rest. trip.behind (from w) rest;
    limits = λ w rest e. let s = said_from _ _ w e in (exactly w rest).1 (trip.limits (from w) rest s.0, s.1);
    here = λ w rest g. let h = (exactly w rest).0 g in rw (trip.here (from w) rest h.0, h.1);
  }
