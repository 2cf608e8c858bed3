-- Lines by their first byte: how those of a kind are counted, what is so of each, and that the lines other than L lines have all lines of every other kind. Assumes nothing.
use Prim.Native.Nat.{ℕ, ◌+◌}
use Prim.Native.Char.{code}
use mathlib.Core.Bool.{Bool, true, false, cond}
use mathlib.Core.List.{List, [], ◌∷◌, ◌++◌}
use mathlib.Core.Path.{◌≡◌, refl, sym, ◌∙◌, ap}
use native.Mathlib.Omega.{arith}
use borrow.Author.Tests.{eq-eqb, eqb-true, eqb-false, ne_eqb}
use lib.Dec.{eqb}
use lib.ListN.{length, get_or}
use Rattle.rules.specs.Choice.{Each}
use Rattle.grammar.specs.Coming.{those}
use Rattle.grammar.specs.Grammar.{IsLLine, beginning}
use Rattle.grammar_alike.specs.Alike.{is_l, without_l}

-- as many as begin with the letter
pub those_many : (x : ℕ) (ls : List (List ℕ)) → beginning x ls ≡ length (those x ls)
unfolding beginning those
those_many x [] = refl
those_many x (l ∷ ls) = by (eqb (get_or l 0 0) x) (those_many x ls)
  where
    by : (b : Bool) → beginning x ls ≡ length (those x ls) → cond b 1 0 + beginning x ls ≡ length (cond b (l ∷ those x ls) (those x ls))
    by true e = omega (arith, e)
    by false e = omega (arith, e)

-- what is so of each line is so of those, and each of them begins with the letter
pub those_each : (P : List ℕ → Type 0) (x : ℕ) (ls : List (List ℕ)) → Each P ls → Each (λ l. P l × (get_or l 0 0 ≡ x)) (those x ls)
unfolding those
those_each P x [] h = tt
those_each P x (l ∷ ls) h = by (eqb (get_or l 0 0) x) refl (those_each P x ls h.1)
  where
    by : (b : Bool) → eqb (get_or l 0 0) x ≡ b → Each (λ l. P l × (get_or l 0 0 ≡ x)) (those x ls) → Each (λ l. P l × (get_or l 0 0 ≡ x)) (cond b (l ∷ those x ls) (those x ls))
    by true e r = ((h.0, eqb-true (get_or l 0 0) x e), r)
    by false e r = r

-- where there are none, no line begins with the letter
pub those_none : (x : ℕ) (ls : List (List ℕ)) → length (those x ls) ≡ 0 → Each (λ l. get_or l 0 0 ≡ x → ⊥) ls
unfolding those
those_none x [] e = tt
those_none x (l ∷ ls) e = by (eqb (get_or l 0 0) x) refl (those_none x ls) e
  where
    by : (b : Bool) → eqb (get_or l 0 0) x ≡ b → (length (those x ls) ≡ 0 → Each (λ l. get_or l 0 0 ≡ x → ⊥) ls) → length (cond b (l ∷ those x ls) (those x ls)) ≡ 0
        → (get_or l 0 0 ≡ x → ⊥) × Each (λ l. get_or l 0 0 ≡ x → ⊥) ls
    by true n r e = absurd (omega (arith, e))
    by false n r e = (eqb-false (get_or l 0 0) x n, r e)

-- ---- L lines left out

-- lines of another kind are all there
pub kind_without : (x : ℕ) → (x ≡ code "L" → ⊥) → (ls : List (List ℕ)) → those x (without_l ls) ≡ those x ls
unfolding those without_l
kind_without x n [] = refl
kind_without x n (l ∷ ls) = by (is_l l) refl (kind_without x n ls)
  where
    by : (b : Bool) → is_l l ≡ b → those x (without_l ls) ≡ those x ls
        → those x (cond b (without_l ls) (l ∷ without_l ls)) ≡ cond (eqb (get_or l 0 0) x) (l ∷ those x ls) (those x ls)
    by true e r = rw (ne_eqb (get_or l 0 0) x (λ z. n (sym z ∙ eqb-true (get_or l 0 0) (code "L") e))) r
    by false e r = ap (λ (k : List (List ℕ)). cond (eqb (get_or l 0 0) x) (l ∷ k) k) r

-- so two files with the same lines other than L lines have the same lines of every other kind
pub kinds_alike : (ls ks : List (List ℕ)) → without_l ks ≡ without_l ls → (x : ℕ) → (x ≡ code "L" → ⊥) → those x ks ≡ those x ls
kinds_alike ls ks e x n = sym (kind_without x n ks) ∙ ap (those x) e ∙ kind_without x n ls

-- L lines behind other lines
pub notes_left_out : (xs ys : List (List ℕ)) → Each IsLLine ys → without_l (xs ++ ys) ≡ without_l xs
unfolding without_l
notes_left_out [] [] h = refl
notes_left_out [] (y ∷ ys) h = rw (eq-eqb (get_or y 0 0) (code "L") h.0.letter) (notes_left_out [] ys h.1)
notes_left_out (x ∷ xs) ys h = rw (notes_left_out xs ys h)
