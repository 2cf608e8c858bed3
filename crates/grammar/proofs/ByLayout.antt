-- What a layout that a line can tell says by itself: how long its lines are, and which listed codes it carries. Assumes nothing.
use Prim.Native.Nat.{ℕ, suc, ◌+◌, ◌*◌, ◌^◌}
use mathlib.Core.Bool.{Bool, true, false, cond}
use mathlib.Core.List.{List, [], ◌∷◌}
use mathlib.Core.Path.{◌≡◌, refl, sym, ◌∙◌, ap, subst}
use native.Mathlib.Nat.{one-mul, zero-mul, zero-add, add-zero}
use native.Mathlib.Omega.{arith}
use Rattle.rules.specs.Choice.{Each}
use Rattle.rules.specs.Families.{first_start}
use Rattle.rules.specs.Refusals.{says}
use Rattle.rules.specs.Listed.{listed, packed_of, code_text}
use Rattle.rules.specs.Layouts.{entries_of, line_length, look, carries, word_from, presence_of, length_said, presence_said}
use Rattle.rules.specs.declared.Listed.{Listed}
use Rattle.rules.specs.declared.Layout.{Layout}
use Rattle.rules.specs.declared.Family.{Family}
use Rattle.rules.specs.declared.Family.TheVariants as family
use Rattle.rules_values.proofs.Presence.{set_bits, count_bits}
use Rattle.rules_trips.proofs.Each.{each_map}
use Rattle.rules_sound.proofs.Entries.{packed_back}
use Rattle.rules_sound.proofs.Placed.{allowed_there, carries_none}
use Rattle.rules_sound.proofs.Columns.{carried_there}
use Rattle.grammar_words.specs.Codes.{Row, rows, Same, SameRows}
use Rattle.grammar_words.proofs.Codes.{listed_exactly}
use Rattle.grammar.specs.Grammar.{Carries}
use Rattle.grammar.specs.Readings.{Present, no_rows, carried, absent, ReadsPresence, ReadsLayout}
use Rattle.grammar.proofs.LayoutLines.{IsTold}
use Rattle.grammar.proofs.Finer.{found_in}
use Rattle.grammar.proofs.Faulty.{length_laid}

-- ---- the length of its lines

pub layout_reads : (f : Family) (layout : Layout) → IsTold f layout → ReadsLayout f layout
unfolding length_said
layout_reads f layout t =
    let a = allowed_there (first_start f) layout t.right t.full in
    record { long = rw t.right (ap says (ap (line_length (first_start f)) a.1 ∙ length_laid f (entries_of layout))) }

-- ---- the listed codes that it carries

module _ (layout : Layout) (t : IsTold family.B layout) where
  carried_in_lem : (r : Listed) (p : Row) → Same r p → carries layout r.code ≡ true → Carries (entries_of layout) p.name
  unfolding look
  carried_in_lem r p s h = let c = carried_there layout r.code h in subst (Carries (entries_of layout)) s.name (found_in r.code (entries_of layout) 0 c.0 c.1)

  absent_in : (r : Listed) (p : Row) → Same r p → carries layout r.code ≡ false → Each (λ e. code_text e.code ≡ p.name → ⊥) (entries_of layout)
  absent_in r p s h =
      let n = carries_none (entries_of layout) r.code (ap (λ y. carries y r.code) (sym (allowed_there 36 layout t.right t.full).1) ∙ h) in
      each_map (entries_of layout) (λ e n i. n (sym (packed_back e.code) ∙ ap packed_of (i ∙ sym s.name) ∙ packed_back r.code)) n

  present : (rs : List Listed) (ps : List Row) (n : ℕ) → SameRows rs ps → Present (entries_of layout) ps n (word_from layout rs n) (set_bits layout rs)
  unfolding word_from set_bits
  present [] [] n s = no_rows
  present [] (p ∷ ps) n s = absurd s
  present (r ∷ rs) [] n s = absurd s
  present (r ∷ rs) (p ∷ ps) n s =
      let i : suc n ≡ n + 1 = omega arith in
      by (carries layout r.code) refl (subst (λ k. Present (entries_of layout) ps k (word_from layout rs (suc n)) (set_bits layout rs)) i (present rs ps (suc n) s.1))
    where
      by : (b : Bool) → carries layout r.code ≡ b → Present (entries_of layout) ps (n + 1) (word_from layout rs (suc n)) (set_bits layout rs)
          → Present (entries_of layout) (p ∷ ps) n (cond b 1 0 * 2 ^ n + word_from layout rs (suc n)) (set_bits layout rs + cond b 1 0)
      by true q next = rw (one-mul (2 ^ n)) (carried (carried_in_lem r p s.0 q) next)
      by false q next = rw (zero-mul (2 ^ n), zero-add (word_from layout rs (suc n)), add-zero (set_bits layout rs)) (absent (absent_in r p s.0 q) next)

pub presence_reads : (layout : Layout) → IsTold family.B layout → ReadsPresence layout
unfolding presence_said presence_of
presence_reads layout t = record {
  word = word_from layout listed 0;
  count = set_bits layout listed;
  is = present layout t listed rows 0 listed_exactly;
  reads = rw (t.right, count_bits layout listed);
}
