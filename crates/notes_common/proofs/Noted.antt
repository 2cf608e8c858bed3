-- The notes of a file counted line by line: one more at each line, and none at a G line. Assumes nothing.
use Prim.Native.Nat.{ℕ, ◌+◌, ◌-◌, ◌≤◌, ◌<◌}
use mathlib.Core.Bool.{Bool, true, false, ◌||◌, cond}
use mathlib.Core.List.{List, ◌∷◌}
use mathlib.Core.Logic.{◌⊎◌, inl, inr}
use mathlib.Core.Path.{◌≡◌, refl, sym, ◌∙◌, ap}
use native.Mathlib.Omega.{arith}
use borrow.Author.Tests.{eq-eqb, ne_eqb}
use lib.Dec.{eqb}
use lib.ListN.{length, take, drop, get_or, drop_of_length-le}
use Rattle.rules.specs.Split.{Lines, line, lines_of}
use Rattle.file_lines.specs.Ends.{ended_at}
use Rattle.file_lines.specs.declared.scan.Ended.TheVariants as ended
use Rattle.file_lines.proofs.Cuts.{torn}
use Rattle.file_lines.proofs.Cuts as cuts
use Rattle.notes_rules.specs.Notes.{is_seal, sealed, notes_in}
use Rattle.notes_common.proofs.Common.{seal_at_lem}

-- what the lines from a place on make of the notes seen so far
abbrev noted : ℕ → Lines → ℕ
noted seen k = cond (sealed k) (length (notes_in k)) (seen + length (notes_in k))

noted_line : (seen : ℕ) (t : List ℕ) (ls : Lines) → noted seen (line t ls) ≡ noted (cond (is_seal t) 0 (seen + 1)) ls
unfolding sealed notes_in
noted_line seen t ls = go (is_seal t) (sealed ls)
  where
    go : (b s : Bool)
        → cond (b || s) (length (cond (b || s) (notes_in ls) (t ∷ notes_in ls))) (seen + length (cond (b || s) (notes_in ls) (t ∷ notes_in ls)))
        ≡ cond s (length (notes_in ls)) (cond b 0 (seen + 1) + length (notes_in ls))
    go true true = refl
    go true false = omega arith
    go false true = refl
    go false false = omega arith

-- what holds where the lines from `at` on are looked at: there are as many notes as were seen, or fewer, and the lines decide as all lines do
pub record Noting (f : List ℕ) (seen at : ℕ) : Type 0 where
  pub inside : at ≤ length f
  pub few : seen ≤ at
  pub is : noted seen (lines_of (drop at f)) ≡ length (notes_in (lines_of f))

module _ (f : List ℕ) where
  pub noting_first : Noting f 0 0
  noting_first = record { inside = omega arith; few = omega arith; is = go (sealed (lines_of f)) }
    where
      go : (b : Bool) → cond b (length (notes_in (lines_of f))) (0 + length (notes_in (lines_of f))) ≡ length (notes_in (lines_of f))
      go true = refl
      go false = omega arith

  module _ (seen at : ℕ) (w : Noting f seen at) where
    pub noting_end : length f ≤ at → seen ≡ length (notes_in (lines_of f))
    unfolding lines_of sealed notes_in
    noting_end h = let e = rw (drop_of_length-le f h) at w.is in omega (arith, e)

    pub noting_torn : (e : ℕ) → at < length f → ended.Broken e ≡ ended_at at (lines_of (drop at f)) → seen ≡ length (notes_in (lines_of f))
    unfolding sealed notes_in
    noting_torn e h q = let t = torn f at e q h in let i = rw t.lines at w.is in omega (arith, i)

    module _ (e : ℕ) (q : ended.At e ≡ ended_at at (lines_of (drop at f))) where
      next_is : noted (cond (eqb (get_or f at 0) 71) 0 (seen + 1)) (lines_of (drop (e + 2) f)) ≡ length (notes_in (lines_of f))
      next_is =
          let c = cuts.cut f at e q in
          let t = take (e - at) (drop at f) in
          let ls = lines_of (drop (e + 2) f) in
          rw (seal_at_lem f at t ls c.lines) (sym (noted_line seen t ls) ∙ ap (noted seen) (sym c.lines) ∙ w.is)

      -- what is seen afterwards, where the line is a G line, and where it is not
      pub noting_either : {A B : Type 0} (s : ℕ) → (A → get_or f at 0 ≡ 71) → (B → (get_or f at 0 ≡ 71 → ⊥)) → (A × (s ≡ 0)) ⊎ (B × (s ≡ seen + 1)) → Noting f s (e + 2)
      noting_either s g n (inl p) =
          let c = cuts.cut f at e q in
          rw p.1 (record { inside = c.fits; few = omega arith; is = rw (eq-eqb (get_or f at 0) 71 (g p.0)) at next_is })
      noting_either s g n (inr p) =
          let c = cuts.cut f at e q in
          rw p.1 (record { inside = c.fits; few = omega (arith, w.few, c.start); is = rw (ne_eqb (get_or f at 0) 71 (n p.0)) at next_is })
