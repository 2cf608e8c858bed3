-- A walk over the lines of a file with added columns, beside one over the old lines: it has the same clock and the same day, and has passed as many lines more as layout lines were put
-- in. Assumes nothing.
use Rattle.std.specs.Prelude.{None, Option, Some}
use Prim.Native.Nat.{ℕ, zero, suc, ◌+◌, ◌-◌, ◌*◌, ◌≤◌}
use mathlib.Core.Bool.{cond}
use mathlib.Core.List.{List, [], ◌∷◌}
use mathlib.Core.Path.{◌≡◌, refl, sym, ◌∙◌, ap, ap₂}
use native.Mathlib.Omega.{arith}
use lib.Dec.{lit≤}
use lib.ListN.{length, get_or, take, drop}
use lib.Seq.{take-take}
use Rattle.rules.specs.Choice.{byte}
use Rattle.rules.specs.Families.{first_start}
use Rattle.rules.specs.Fields.{time_at}
use Rattle.rules.specs.Lines.{kind_of}
use Rattle.rules.specs.Numbers.{spell, number_at}
use Rattle.rules.specs.Order.{passing}
use Rattle.rules.specs.Reads.{layout_said}
use Rattle.rules.specs.Refusals.{says}
use Rattle.rules.specs.Roles.{role_of, is_timed}
use Rattle.rules.specs.Walk.{Walk, time_on, day_after, walked_by, walked}
use Rattle.rules.specs.declared.Family.{Family}
use Rattle.rules.specs.declared.Family.TheVariants as family
use Rattle.rules.specs.declared.Layout.{Layout}
use Rattle.rules.proofs.Texts.{part_front}
use Rattle.grammar_wider.proofs.Letters.{first_kept}
use Rattle.grammar_wider.proofs.Changing.{told_role}

-- ---- the time of a line stands before its columns

-- digits at the front of two texts that begin alike
spell_front : (n v : ℕ) (s s' : List ℕ) → take n s' ≡ take n s → spell n v s' ≡ spell n v s
unfolding spell
spell_front zero v s s' e = refl
spell_front (suc n) v [] [] e = refl
spell_front (suc n) v [] (b ∷ s') e = let z : suc (length (take n s')) ≡ 0 = ap length e in absurd (omega (arith, z))
spell_front (suc n) v (a ∷ s) [] e = let z : 0 ≡ suc (length (take n s)) = ap length e in absurd (omega (arith, z))
spell_front (suc n) v (a ∷ s) (b ∷ s') e =
    let h : b ≡ a = ap (λ (l : List ℕ). get_or l 0 0) e in
    let t : take n s' ≡ take n s = ap (λ (l : List ℕ). drop 1 l) e in
    rw (h, spell_front n (v * 10 + (a - 48)) s s' t)

module _ (s s' : List ℕ) (e : take 7 s' ≡ take 7 s) where
  two_front : (at : ℕ) → at + 2 ≤ 7 → number_at s' at 2 ≡ number_at s at 2
  unfolding number_at
  two_front at h = rw (spell_front 2 0 (drop at s) (drop at s') (sym (part_front at 2 7 s' h) ∙ ap (λ (l : List ℕ). take 2 (drop at l)) e ∙ part_front at 2 7 s h))

  time_front : time_at s' 1 ≡ time_at s 1
  unfolding time_at
  time_front = rw (two_front 1 (lit≤ tt), two_front 3 (lit≤ tt), two_front 5 (lit≤ tt))

-- the columns of a line of a family start behind its time
behind_time : (f : Family) → 7 ≤ byte (first_start f)
behind_time family.B = lit≤ tt
behind_time (family.Extra x) = lit≤ tt

-- a line whose fields before the columns are the old ones has the old time
module _ (f : Family) (t t' : List ℕ) (fields : take (byte (first_start f)) t' ≡ take (byte (first_start f)) t) where
  pub same_time : time_on t' ≡ time_on t
  same_time =
      let e : take 7 t' ≡ take 7 t = sym (take-take 7 _ t' (behind_time f)) ∙ ap (take 7) fields ∙ take-take 7 _ t (behind_time f) in
      ap₂ (λ (b : ℕ) (o : Option ℕ). cond (is_timed (role_of (kind_of b))) o None) (first_kept f t t' fields) (time_front t t' e)

-- a line that tells a layout has none
pub told_untimed : (f : Family) (t : List ℕ) (i : Layout) → layout_said f t ≡ says i → time_on t ≡ None
told_untimed f t i e = rw (told_role f t i e)

-- ---- two walks

pub record Ahead (more : ℕ) (v v' : Walk) : Type 0 where
  pub lines : v'.lines ≡ v.lines + more
  pub clock : v'.clock ≡ v.clock
  pub day : v'.day ≡ v.day

-- past a line each, with the same time or with none
pub both_on : (more : ℕ) (v v' : Walk) (o : Option ℕ) → Ahead more v v' → Ahead more (walked_by o v) (walked_by o v')
both_on more v v' None h = record { lines = omega (arith, h.lines); clock = h.clock; day = h.day }
both_on more v v' (Some t) h = record { lines = omega (arith, h.lines); clock = refl; day = ap₂ (λ (c d : ℕ). day_after (passing c t) d) h.clock h.day }

-- past a line without a time that the other does not come by
pub one_on : (more : ℕ) (v v' : Walk) (t' : List ℕ) → time_on t' ≡ None → Ahead more v v' → Ahead (more + 1) v (walked t' v')
one_on more v v' t' e h = rw e (record { lines = omega (arith, h.lines); clock = h.clock; day = h.day })
