-- A walk over the lines of a file, with an L line or without it, comes to the same fixes on the same days. Assumes nothing.
use Rattle.std.specs.Prelude.{None, Option, Some}
use Prim.Native.Nat.{ℕ}
use Prim.Native.Char.{code}
use mathlib.Core.Bool.{Bool, true, false, cond}
use mathlib.Core.List.{List, [], ◌∷◌, ◌++◌, map, map-append}
use mathlib.Core.Path.{◌≡◌, refl, sym, ◌∙◌, ap, ap₂}
use native.Mathlib.Omega.{arith}
use borrow.Author.Tests.{eqb-true}
use lib.ListN.{get_or}
use Rattle.rules.specs.Choice.{on}
use Rattle.rules.specs.Lines.{kind_of}
use Rattle.rules.specs.Order.{passing}
use Rattle.rules.specs.Reads.{fix_said}
use Rattle.rules.specs.Refusals.{Said, says, refuses}
use Rattle.rules.specs.Split.{Lines, end, broken, line}
use Rattle.rules.specs.Walk.{Walk, set_out, time_on, day_after, walked_by, walked}
use Rattle.rules.specs.declared.Fix.{Fix}
use Rattle.rules.specs.declared.Layout.{Layout}
use Rattle.rules_laws.proofs.Splitting.{texts_of}
use Rattle.grammar.proofs.Sections.{before}
use Rattle.grammar_alike.specs.Alike.{is_l, without_l}
use Rattle.track_rules.specs.Track.{records_of, track_from}
use Rattle.track_rules.specs.declared.Record.{Record}
use Rattle.track.proofs.Stepping.{other_said}
use Rattle.claims_notes.specs.Notes.{unnumbered}

-- two walks with one clock and one day, whatever lines they have passed
record Abreast (v w : Walk) : Type 0 where
  clock : v.clock ≡ w.clock
  day : v.day ≡ w.day

both_walk : (o : Option ℕ) (v w : Walk) → Abreast v w → Abreast (walked_by o v) (walked_by o w)
both_walk None v w h = record { clock = h.clock; day = h.day }
both_walk (Some t) v w h = record { clock = refl; day = ap₂ (λ (c d : ℕ). day_after (passing c t) d) h.clock h.day }

-- an L line has no time
untimed : (t : List ℕ) → get_or t 0 0 ≡ code "L" → time_on t ≡ None
unfolding kind_of
untimed t e = rw e

-- so a walk past it stays beside one that has not come by it
one_walks : (t : List ℕ) (v w : Walk) → get_or t 0 0 ≡ code "L" → Abreast v w → Abreast (walked t v) w
one_walks t v w e h = rw (untimed t e) (record { clock = h.clock; day = h.day })

module _ (layout : Layout) where
  abbrev passed : Walk → Lines → List Record
  passed w k = map unnumbered (track_from layout w k)

  same_records : (v w : Walk) (s : Said Fix) → v.day ≡ w.day → map unnumbered (records_of v s) ≡ map unnumbered (records_of w s)
  same_records v w (says f) e = ap (λ (d : ℕ). record { line = 0; day = d; fix = f } ∷ []) e
  same_records v w (refuses n l b) e = refl

  -- over the lines, and over those of them that are no L lines
  past_notes : (k : Lines) (v w : Walk) → Abreast v w → passed v k ≡ passed w (before (without_l (texts_of k)) end)
  unfolding track_from on without_l
  past_notes end v w h = refl
  past_notes (broken n) v w h = refl
  past_notes (line t ls) v w h = by (is_l t) refl (past_notes ls)
    where
      by : (b : Bool) → is_l t ≡ b → ((v w : Walk) → Abreast v w → passed v ls ≡ passed w (before (without_l (texts_of ls)) end))
          → map unnumbered (records_of (walked t v) (fix_said t layout) ++ track_from layout (walked t v) ls)
          ≡ passed w (before (cond b (without_l (texts_of ls)) (t ∷ without_l (texts_of ls))) end)
      by true e later =
          let l = eqb-true (get_or t 0 0) (code "L") e in
          let n : records_of (walked t v) (fix_said t layout) ≡ [] = other_said layout t (λ z. omega (arith, sym l ∙ z)) (walked t v) in
          rw n (later (walked t v) w (one_walks t v w l h))
      by false e later =
          let rest = before (without_l (texts_of ls)) end in
          let a = both_walk (time_on t) v w h in
          map-append unnumbered (records_of (walked t v) (fix_said t layout)) (track_from layout (walked t v) ls)
          ∙ ap₂ (λ (x y : List Record). x ++ y) (same_records (walked t v) (walked t w) (fix_said t layout) a.day) (later (walked t v) (walked t w) a)
          ∙ sym (map-append unnumbered (records_of (walked t w) (fix_said t layout)) (track_from layout (walked t w) rest))

  -- two files with the same lines other than L lines have the same fixes on the same days
  pub walks_alike : (k j : Lines) → without_l (texts_of j) ≡ without_l (texts_of k) → passed set_out j ≡ passed set_out k
  walks_alike k j e =
      let here : Abreast set_out set_out = record { clock = refl; day = refl } in
      past_notes j set_out set_out here ∙ ap (λ (ls : List (List ℕ)). passed set_out (before ls end)) e ∙ sym (past_notes k set_out set_out here)
