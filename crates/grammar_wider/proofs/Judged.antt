-- One line of a file against those before it, and the same place in a file with added columns: it passes there too, and leaves the states alike. Assumes nothing.
use Rattle.std.specs.Prelude.{None, Some}
use Prim.Native.Nat.{ℕ, ◌+◌}
use mathlib.Core.Bool.{true, false, cond}
use mathlib.Core.List.{List, [], ◌∷◌}
use mathlib.Core.Path.{◌≡◌, refl, ap, ◌∙◌}
use lib.ListN.{get_or}
use Rattle.rules.specs.Families.{first_start, line_letter, layout_of}
use Rattle.rules.specs.Refusals.{says}
use Rattle.rules.specs.Lines.{columned_line}
use Rattle.rules.specs.Roles.{is_role, is_bare, is_declaring, same_family, is_of, stage_after}
use Rattle.rules.specs.Order.{fits_declaration, order_of, moved, judge}
use Rattle.rules.specs.declared.Layouts.{Layouts}
use Rattle.rules.specs.declared.Family.{Family}
use Rattle.rules.specs.declared.Role.{Role}
use Rattle.rules.specs.declared.Role.TheVariants as role
use Rattle.rules.specs.declared.Flight.{Flight}
use Rattle.rules.specs.declared.State.{State}
use Rattle.rules.proofs.Inverse.{none_some, false_true, need_inv}
use Rattle.rules_laws.proofs.Passing.{role_in, Leaves, opens, date, header, layout, columned, head, point, event, satellites, differential, seals, remark, other, judged, judged_so, not_empty}
use Rattle.rules_trips.proofs.Columned.{line_timed, timed_line, said_by, by_said}
use Rattle.rules_sound.proofs.Families.{line_role, Beside, one, apart, beside}
use Rattle.rules_sound.proofs.Placed.{Sound}
use Rattle.grammar_wider.specs.Wider.{Extends, WiderLine}
use Rattle.grammar_wider.specs.Before.{AsBefore}
use Rattle.grammar_wider.proofs.Lists.{Pairs}
use Rattle.grammar_wider.proofs.OneLine.{says_same, as_before}

-- ---- the state of the new file

-- what is said of it: its own layouts, and its own count of lines
abbrev pub wide_flight : Layouts → ℕ → Flight → Flight
wide_flight new n f = record { date = f.date; layouts = new; lines = n; counts = f.counts; signed = f.signed }

abbrev pub wide : Layouts → ℕ → State → State
wide new n st = record { stage = st.stage; declared = st.declared; points = st.points; clock = st.clock; flight = wide_flight new n st.flight }

-- ---- a line by its role

-- the line l of the role r passes from st to after, in the part `stage`
pub record Comes (r : Role) (l : List ℕ) (st after : State) : Type 0 where
  pub stage : ℕ
  pub order : order_of r st ≡ Some stage
  pub left : Leaves l (moved stage st) r after

pub came : (r : Role) (l : List ℕ) (st after : State) → role_in l ≡ r → judge l st ≡ says after → Comes r l st after
came r l st after q h = let j = judged l st after h in rw (← q) record { stage = j.stage; order = j.order; left = j.left }

pub comes : (r : Role) (l : List ℕ) (st after : State) → role_in l ≡ r → is_role r ≡ true → Comes r l st after → judge l st ≡ says after
comes r l st after q k c =
    judged_so l st after (record { long = not_empty l (ap is_role q ∙ k); known = ap is_role q ∙ k; stage = c.stage; order = rw q c.order; left = rw q c.left })

-- where it came, it could
pub order_stage : (r : Role) (st : State) (stage : ℕ) → order_of r st ≡ Some stage → stage_after r st.stage ≡ Some stage
unfolding order_of
order_stage r st stage h = (need_inv (fits_declaration (is_declaring r) st) None (Some stage) _ none_some h).1

-- ---- lines without columns

-- it leaves the states alike, and is of no family
abbrev Quiet : Layouts → ℕ → List ℕ → State → Role → State → Type 0
Quiet new n l m r after =
    Leaves l (wide new n m) r (wide new n after) × (after.flight.layouts ≡ m.flight.layouts) × ((g : Family) → is_of g r ≡ false)

bare_left : (new : Layouts) (n : ℕ) {l : List ℕ} {m : State} {r : Role} {after : State} → is_bare r ≡ true → Leaves l m r after → Quiet new n l m r after
bare_left new n p (opens e) = absurd (false_true p)
bare_left new n p (date d z e) = absurd (false_true p)
bare_left new n p (header z e) = absurd (false_true p)
bare_left new n p (layout f i e) = absurd (false_true p)
bare_left new n p (columned f t e o) = absurd (false_true p)
bare_left new n p (head h z e) = (head h z e, refl, λ g. refl)
bare_left new n p (point q z e) = (point q z e, refl, λ g. refl)
bare_left new n p (event t e o) = (event t e o, refl, λ g. refl)
bare_left new n p (satellites t e o) = (satellites t e o, refl, λ g. refl)
bare_left new n p (differential e) = (differential e, refl, λ g. refl)
bare_left new n p (seals e) = (seals e, refl, λ g. refl)
bare_left new n p (remark e) = (remark e, refl, λ g. refl)
bare_left new n p (other e) = (other e, refl, λ g. refl)

-- the lines of a family, each as before
abbrev pub Paired : Layouts → Layouts → Family → List (List ℕ) → List (List ℕ) → Type 0
Paired old new g = Pairs (AsBefore g (layout_of g old) (layout_of g new))

-- with the line t before them, where it is one of them
abbrev pub with_line : Family → List ℕ → List (List ℕ) → List (List ℕ)
with_line g t xs = cond (is_of g (role_in t)) (t ∷ xs) xs

-- the line t of the old file leaves the state `after`, and t' of the new one the same with its own layouts and count; each reads as before, if it has columns
pub record Stepped (old new : Layouts) (n : ℕ) (st after : State) (t t' : List ℕ) : Type 0 where
  pub judges : judge t' (wide new n st) ≡ says (wide new (n + 1) after)
  pub layouts : after.flight.layouts ≡ st.flight.layouts
  pub pairs : (g : Family) (xs ys : List (List ℕ)) → Paired old new g xs ys → Paired old new g (with_line g t xs) (with_line g t' ys)

pub bare_step : (old new : Layouts) (n : ℕ) (t : List ℕ) (st after : State) → is_bare (role_in t) ≡ true → judge t st ≡ says after → Stepped old new n st after t t
unfolding order_of fits_declaration
bare_step old new n t st after p h =
    let j = judged t st after h in
    let q = bare_left new (n + 1) p j.left in
    record {
      judges = judged_so t _ _ (record { long = j.long; known = j.known; stage = j.stage; order = j.order; left = q.0 });
      layouts = q.1;
      pairs = λ g xs ys r. rw (q.2 g) r;
    }

-- ---- lines with columns

module _ (f : Family) (old new : Layouts) (t t' : List ℕ) (so : Sound (first_start f) (layout_of f old)) (so' : Sound (first_start f) (layout_of f new))
    (ext : Extends (layout_of f old) (layout_of f new)) (k : get_or t 0 0 ≡ line_letter f) (w : WiderLine f (layout_of f old) (layout_of f new) t t') where
  columned_left : (n : ℕ) (m after : State) → m.flight.layouts ≡ old → Leaves t m (role.Columned f) after
      → Leaves t' (wide new n m) (role.Columned f) (wide new n after) × (after.flight.layouts ≡ m.flight.layouts) × (get_or t' 0 0 ≡ line_letter f)
      × AsBefore f (layout_of f old) (layout_of f new) t t'
  columned_left n m after p (columned g x e o) =
      let v = timed_line g (layout_of g old) t x (rw (← p) e) in
      let said = said_by g t (layout_of g old) v.0 k so.right v.1 in
      let again = by_said g t' (layout_of g new) v.0 (says_same g (layout_of g old) (layout_of g new) t t' v.0 so' w said) in
      let e' : columned_line g (layout_of g new) t' ≡ says x = line_timed g (layout_of g new) t' v.0 again.2 ∙ ap says v.2 in
      (columned g x e' o, refl, again.0, as_before g (layout_of g old) (layout_of g new) t t' v.0 so' w said so.full ext)

  pairs_with : AsBefore f (layout_of f old) (layout_of f new) t t' → (g : Family) → Beside f g → (xs ys : List (List ℕ)) → Paired old new g xs ys
      → Paired old new g (cond (same_family g f) (t ∷ xs) xs) (cond (same_family g f) (t' ∷ ys) ys)
  pairs_with a g (one q) xs ys r = rw q (a, r)
  pairs_with a g (apart q h) xs ys r = rw q r

  pub columned_step : (n : ℕ) (st after : State) → st.flight.layouts ≡ old → judge t st ≡ says after → Stepped old new n st after t t'
  unfolding order_of fits_declaration
  columned_step n st after p h =
      let c = came (role.Columned f) t st after (line_role f _ k) h in
      let d = columned_left (n + 1) (moved c.stage st) after p c.left in
      let q' = line_role f _ d.2 in
      record {
        judges = comes (role.Columned f) t' _ _ q' refl (record { stage = c.stage; order = c.order; left = d.0 });
        layouts = d.1;
        pairs = λ g xs ys r. rw (line_role f _ k, q') (pairs_with d.3 g (beside f g) xs ys r);
      }
