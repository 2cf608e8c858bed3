-- A line of a family both ways: with its layout it reads as its fields exactly when it is their own line, the fields within their limits and the tail what the layout gives.
-- What is to be shown of the fields of each family alone is `Fronted`. Assumes nothing.
use Prim.Native.Nat.{ℕ, suc, ◌-◌}
use mathlib.Core.Bool.{Bool, true, false}
use mathlib.Core.List.{List, [], ◌++◌}
use mathlib.Core.Path.{◌≡◌, refl, ◌∙◌, ap}
use mathlib.Core.Logic.{◌↔◌}
use native.Mathlib.Omega.{arith}
use borrow.Author.Tests.{eqb-true, eq-eqb}
use lib.Dec.{eqb}
use lib.ListN.{length, get_or, drop}
use lib.Seq.{drop_at}
use Rattle.rules.specs.Choice.{need}
use Rattle.rules.specs.Families.{first_start, line_letter}
use Rattle.rules.specs.Refusals.{says}
use Rattle.rules.specs.Layouts.{allowed, columns}
use Rattle.rules.specs.Listed.{off_limit}
use Rattle.rules.specs.Lines.{shaped_by, b_line, at_limit, FieldsIn, time_in, family_line, columned_line}
use Rattle.rules.specs.Reads.{fields_said, value_from, said_of, reading}
use Rattle.rules.specs.declared.AtLimit.{AtLimit}
use Rattle.rules.specs.declared.Layout.{Layout}
use Rattle.rules.specs.declared.Family.{Family}
use Rattle.rules.specs.declared.Family.TheVariants as family
use Rattle.rules.specs.Limits.{good_tail}
use Rattle.rules.proofs.Inverse.{false_true, refuses_says, need_inv, then_inv}
use Rattle.rules_trips.proofs.Texts.{are_valid}
use Rattle.rules_trips.proofs.Tails.{tail_there, tail_here}
use Rattle.rules_trips.proofs.LineTrip.{LineTrip}

-- ---- the line as the check reads it, by its time, and as its readers read it

pub line_timed : (f : Family) (layout : Layout) (l : List ℕ) (v : FieldsIn f) → family_line f layout l ≡ says v → columned_line f layout l ≡ says (time_in f v)
unfolding columned_line
line_timed family.B layout l v e = rw e
line_timed (family.Extra x) layout l t e = e

pub timed_line : (f : Family) (layout : Layout) (l : List ℕ) (t : ℕ) → columned_line f layout l ≡ says t → (v : FieldsIn f) × (family_line f layout l ≡ says v) × (time_in f v ≡ t)
unfolding columned_line
timed_line family.B layout l t e = let r = then_inv (b_line layout l) t _ e in (r.0, r.1, cc)
timed_line (family.Extra x) layout l t e = (t, e, refl)

-- the value that its reader gives
pub value_said : (f : Family) (l : List ℕ) (layout : Layout) (v : FieldsIn f) → fields_said f l layout ≡ says v → said_of f l layout ≡ says (value_from f l layout v)
value_said family.B l layout v e = rw e
value_said (family.Extra x) l layout t e = e

module _ (f : Family) (l : List ℕ) (layout : Layout) (v : FieldsIn f) where
  -- a line of the family by an allowed layout is said to have the fields that its checks find
  pub said_by : get_or l 0 0 ≡ line_letter f → allowed (first_start f) layout ≡ true → family_line f layout l ≡ says v → fields_said f l layout ≡ says v
  said_by k a e = rw (eq-eqb _ _ k, a) e

  pub by_said : fields_said f l layout ≡ says v → (get_or l 0 0 ≡ line_letter f) × (allowed (first_start f) layout ≡ true) × (family_line f layout l ≡ says v)
  by_said e =
      let k = need_inv (eqb (get_or l 0 0) (line_letter f)) _ (says v) _ refuses_says e in
      let g = need_inv (allowed (first_start f) layout) _ (says v) _ refuses_says k.1 in
      (eqb-true _ _ k.0, g.0, g.1)

  -- the whole reading
  pub reading_said : fields_said f l layout ≡ says v → reading f l layout ≡ says (record { value = value_from f l layout v; entries = layout })
  unfolding reading
  reading_said e = rw (value_said f l layout v e)

-- ---- the fields before the columns, and the columns

-- which coordinates stand at their limit: of a B line those of its fields; K and N lines have none
abbrev pub limit_in : (f : Family) → FieldsIn f → AtLimit
limit_in family.B v = at_limit v
limit_in (family.Extra e) t = off_limit

-- what a line's checks by its layout say, where its fields are read: `At l v` is that they stand there
pub record Passed (f : Family) (At : List ℕ → FieldsIn f → Type 0) (layout : Layout) (l : List ℕ) (v : FieldsIn f) : Type 0 where
  pub shape : shaped_by (first_start f) layout l ≡ says tt
  pub fields : At l v
  pub ruled : columns (limit_in f v) l layout ≡ says tt

-- The fields of a family's lines: they are read exactly where their text stands, up to the first start, of valid characters, and they are within their limits.
pub record Fronted (f : Family) (At : List ℕ → FieldsIn f → Type 0) (text : FieldsIn f → List ℕ → List ℕ) (within : FieldsIn f → Bool) : Type 0 where
  pub passes : (layout : Layout) (l : List ℕ) (v : FieldsIn f) → (family_line f layout l ≡ says v) ↔ Passed f At layout l v
  pub begins : (v : FieldsIn f) (tail : List ℕ) → get_or (text v tail) 0 0 ≡ line_letter f
  pub splits : (v : FieldsIn f) (tail : List ℕ) → text v tail ≡ text v [] ++ tail
  pub long : (v : FieldsIn f) → suc (length (text v [])) ≡ first_start f
  pub clean : (v : FieldsIn f) → within v ≡ true → are_valid (text v []) ≡ true
  pub there : (l : List ℕ) (v : FieldsIn f) → get_or l 0 0 ≡ line_letter f → At l v → l ≡ text v (drop (first_start f - 1) l)
  pub limits : (l : List ℕ) (v : FieldsIn f) → At l v → within v ≡ true
  pub here : (v : FieldsIn f) (tail : List ℕ) → within v ≡ true → At (text v tail) v

module _ {f : Family} {At : List ℕ → FieldsIn f → Type 0} {text : FieldsIn f → List ℕ → List ℕ} {within : FieldsIn f → Bool} (front : Fronted f At text within) (layout : Layout) where
  pub fields_trip : LineTrip (λ l. fields_said f l layout) text (first_start f - 1) (λ v tail. need (within v) false λ _. good_tail (limit_in f v) (first_start f) tail layout)
  fields_trip = record {
    there = λ l v e.
        let w = by_said f l layout v e in
        front.there l v w.0 ((front.passes layout l v).0 w.2).fields;
    behind = λ v tail. ap (drop (first_start f - 1)) (front.splits v tail) ∙ drop_at (text v []) tail (first_start f - 1) (omega (arith, front.long v));
    limits = λ v tail e.
        let w = by_said f (text v tail) layout v e in
        let p = (front.passes layout (text v tail) v).0 w.2 in
        let s = front.splits v tail in
        simp (front.limits (text v tail) v p.fields, tail_there (first_start f) (text v []) tail (front.long v) (limit_in f v) layout tt tt w.1 (rw s at p.shape) (rw s at p.ruled));
    here = λ v tail g.
        let h = need_inv (within v) false true _ false_true g in
        let t = tail_here (first_start f) (text v []) tail (front.long v) (limit_in f v) layout (front.clean v h.0) h.1 in
        let s = front.splits v tail in
        let p : Passed f At layout (text v tail) v = record { shape = rw s t.1; fields = front.here v tail h.0; ruled = rw s t.2 } in
        said_by f (text v tail) layout v (front.begins v tail) t.0 ((front.passes layout (text v tail) v).1 p);
  }
