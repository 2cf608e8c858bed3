-- The lines that tell a layout, over the family: where one passes and what it leaves; and the parts of a file from which a line leads on alike. Assumes nothing.
use Prim.Native.Nat.{ℕ, ◌-◌, ◌≤◌, ◌<◌}
use mathlib.Core.Bool.{true}
use mathlib.Core.List.{List}
use mathlib.Core.Path.{◌≡◌, refl, sym, ap, ◌∙◌}
use native.Mathlib.Omega.{arith}
use borrow.Author.Tests.{le-leb, lt-leb, eqb-true}
use lib.Dec.{leb, eqb}
use lib.ListN.{get_or}
use Rattle.rules.specs.Choice.{on}
use Rattle.rules.specs.Families.{first_start, layout_letter}
use Rattle.rules.specs.Refusals.{says}
use Rattle.rules.specs.Lines.{layout_line}
use Rattle.rules.specs.Roles.{is_bare, after_h, after_layout, in_body, after_g, leading, stage_after}
use Rattle.rules.specs.Order.{fits_declaration, order_of, moved, laid_out, judge}
use Rattle.rules.specs.Files.{ends_after}
use Rattle.rules.specs.Reads.{layout_said}
use Rattle.rules.specs.declared.Layout.{Layout}
use Rattle.rules.specs.declared.Family.{Family}
use Rattle.rules.specs.declared.Role.{Role}
use Rattle.rules.specs.declared.Role.TheVariants as role
use Rattle.rules.specs.declared.Seal.{Seal}
use Rattle.rules.specs.declared.Seal.TheVariants as seal
use Rattle.rules.specs.declared.State.{State}
use Rattle.rules.proofs.Inverse.{refuses_says, false_true, need_inv}
use Rattle.rules_laws.proofs.Passing.{leading_so, leading_inv, role_in, Leaves, layout}
use Rattle.rules_sound.proofs.Families.{tells_role}
use Rattle.grammar_wider.proofs.Judged.{came, comes, order_stage}

-- ---- the line that tells a layout

module _ (f : Family) (l : List ℕ) (i : Layout) (e : layout_said f l ≡ says i) where
  line_there : (get_or l 0 0 ≡ layout_letter f) × (layout_line (first_start f) l ≡ says i)
  unfolding layout_said
  line_there = let k = need_inv (eqb (get_or l 0 0) (layout_letter f)) _ (says i) _ refuses_says e in (eqb-true _ _ k.0, k.1)

  pub told_role : role_in l ≡ role.Tells f
  told_role = tells_role f _ line_there.0

  told_left : (m after : State) → Leaves l m (role.Tells f) after → laid_out f i m ≡ after
  told_left m after (layout g x h) = let q : i ≡ x = cc line_there.1 in ap (λ y. laid_out g y m) q

  -- the state after it, where it passes
  pub told_after : (st after : State) → judge l st ≡ says after → laid_out f i (moved (after_layout f) st) ≡ after
  unfolding stage_after
  told_after st after h =
      let c = came (role.Tells f) l st after told_role h in
      let n = (leading_inv after_h (after_layout f - 1) (after_layout f) st.stage c.stage (order_stage (role.Tells f) st c.stage c.order)).2 in
      ap (λ s. laid_out f i (moved s st)) n ∙ told_left (moved c.stage st) after c.left

  -- it passes where it may come
  pub told_passes : (st : State) → st.points ≡ 0 → after_h ≤ st.stage → st.stage < after_layout f → judge l st ≡ says (laid_out f i (moved (after_layout f) st))
  unfolding stage_after order_of fits_declaration
  told_passes st p a b =
      comes (role.Tells f) l st _ told_role refl (record {
        stage = after_layout f;
        order = rw p (leading_so after_h (after_layout f - 1) (after_layout f) st.stage a (omega arith));
        left = layout f i line_there.1;
      })

-- ---- the parts of a file

-- in another part of the file
abbrev pub staged : ℕ → State → State
staged s st = record { stage = s; declared = st.declared; points = st.points; clock = st.clock; flight = st.flight }

-- up to the part `low`, a line of this role comes only behind the front, and leads on to one part
pub record Behind (low : ℕ) (r : Role) : Type 0 where
  pub high : ℕ
  pub next : ℕ
  pub far : low ≤ high
  pub leads : (s : ℕ) → s ≤ low → stage_after r s ≡ leading after_h high next s

module _ (low : ℕ) where
  behind_body : (r : Role) → ((s : ℕ) → stage_after r s ≡ leading after_h in_body in_body s) → low < in_body → Behind low r
  behind_body r e h = record { high = in_body; next = in_body; far = omega arith; leads = λ s p. e s }

  pub columned_behind : (f : Family) → low < in_body → Behind low (role.Columned f)
  unfolding stage_after
  columned_behind f = behind_body (role.Columned f) (λ s. refl)

  pub tells_behind : (f : Family) → low < after_layout f → Behind low (role.Tells f)
  unfolding stage_after
  tells_behind f h = record { high = after_layout f - 1; next = after_layout f; far = omega arith; leads = λ s p. refl }

  pub bare_behind : (r : Role) → is_bare r ≡ true → low < in_body → Behind low r
  unfolding stage_after
  bare_behind role.Opens x h = absurd (false_true x)
  bare_behind role.Heads x h = absurd (false_true x)
  bare_behind (role.Tells f) x h = absurd (false_true x)
  bare_behind (role.Columned f) x h = absurd (false_true x)
  bare_behind role.Declares x h = behind_body role.Declares (λ s. refl) h
  bare_behind role.Event x h = behind_body role.Event (λ s. refl) h
  bare_behind role.Satellites x h = behind_body role.Satellites (λ s. refl) h
  bare_behind role.Differential x h = behind_body role.Differential (λ s. refl) h
  bare_behind role.Seals x h = record { high = after_g; next = after_g; far = omega arith; leads = λ s p. refl }
  bare_behind role.Remark x h = record { high = in_body; next = in_body; far = omega arith; leads = λ s p. rw (le-leb s in_body (omega arith)) }
  bare_behind role.Other x h = behind_body role.Other (λ s. refl) h
  bare_behind role.NoRole x h = absurd (false_true x)

  module _ (t : List ℕ) (b : Behind low (role_in t)) (st : State) (early : st.stage ≤ low) where
    -- it comes behind the front
    pub behind_front : (after : State) → judge t st ≡ says after → after_h ≤ st.stage
    behind_front after h =
        let c = came (role_in t) t st after refl h in
        (leading_inv after_h b.high b.next st.stage c.stage (sym (b.leads st.stage early) ∙ order_stage (role_in t) st c.stage c.order)).0

    -- and is judged alike from each of these parts behind the front
    pub judged_alike : (s : ℕ) → s ≤ low → after_h ≤ s → after_h ≤ st.stage → judge t (staged s st) ≡ judge t st
    unfolding judge on order_of fits_declaration
    judged_alike s e a a' =
        let q : stage_after (role_in t) s ≡ stage_after (role_in t) st.stage =
        b.leads s e ∙ leading_so after_h b.high b.next s a (omega (arith, b.far))
        ∙ sym (b.leads st.stage early ∙ leading_so after_h b.high b.next st.stage a' (omega (arith, b.far))) in
        rw q

-- and what a file must have at its end, it has in all of these parts or in none
pub sealed_alike : (seal : Seal) (s s' : ℕ) → after_h ≤ s → s < in_body → after_h ≤ s' → s' < in_body → leb (ends_after seal) s' ≡ leb (ends_after seal) s
sealed_alike seal.Usual s s' a b a' b' = le-leb after_h s' a' ∙ sym (le-leb after_h s a)
sealed_alike seal.Strict s s' a b a' b' = lt-leb after_g s' (omega arith) ∙ sym (lt-leb after_g s (omega arith))
