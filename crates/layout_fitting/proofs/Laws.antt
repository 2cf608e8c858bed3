-- One turn of a loop over the entries of an answer, for a code that comes again and for an entry outside the line. Assumes nothing.
use Rattle.std.specs.Prelude.{None, Some}
use Prim.Native.Nat.{ℕ, suc, ◌+◌, ◌≤◌, ◌<◌}
use mathlib.Core.Bool.{Bool, true, false, not, cond, ◌||◌}
use mathlib.Core.List.{List, [], ◌∷◌}
use mathlib.Core.Path.{◌≡◌, refl, ◌∙◌, ap}
use native.Mathlib.Omega.{arith}
use native.Mathlib.Numerals.{add-one}
use lib.Dec.{eqb}
use lib.ListN.{length, get_or, drop, length-take, drop_of_length-le}
use lib.Seq.{drop-cons}
use Rattle.rules.specs.Choice.{first_of}
use Rattle.rules.specs.declared.Span.{Span}
use Rattle.rules.specs.Layouts.{unused, entries_of, span_of}
use Rattle.rules.specs.Looks.{carried_in, twice, is_inside, are_inside}
use Rattle.rules.specs.declared.Entry.{Entry}
use Rattle.rules.specs.declared.Layout.{Layout}
use Rattle.layout_coded.proofs.Turns.{there, same}

-- ---- a code that comes again

abbrev pub coded : ℕ → Entry → Bool
coded x e = eqb e.code x

abbrev pub spanned : ℕ → Entry → Span
spanned k e = span_of e

-- what is found does not hang on the number of the first place
pub any_place : (x : ℕ) (es : List Entry) (m n : ℕ) → first_of (coded x) spanned es m ≡ first_of (coded x) spanned es n
unfolding first_of
any_place x [] m n = refl
any_place x (e ∷ es) m n = ap (cond (coded x e) (Some (span_of e))) (any_place x es (suc m) (suc n))

pub code_found : (x : ℕ) (es : List Entry) (n : ℕ) (s : Span) → first_of (coded x) spanned es n ≡ Some s → true ≡ carried_in es x
code_found x es n s e = rw (any_place x es 0 n, e)

pub code_missed : (x : ℕ) (es : List Entry) (n : ℕ) → first_of (coded x) spanned es n ≡ None → false ≡ carried_in es x
code_missed x es n e = rw (any_place x es 0 n, e)

module _ (l : Layout) (i : ℕ) where
  opened : length l.entries ≡ 13 → i < 13 → i < l.count → drop i (entries_of l) ≡ get_or l.entries i unused ∷ drop (i + 1) (entries_of l)
  opened e h k = rw add-one (drop-cons (entries_of l) i unused (there l i e h k) ∙ ap (λ x. x ∷ drop (suc i) (entries_of l)) (same l i k))

  pub twice_here : length l.entries ≡ 13 → i < 13 → i < l.count → carried_in (drop (i + 1) (entries_of l)) (get_or l.entries i unused).code ≡ true
      → twice (drop i (entries_of l)) ≡ true
  unfolding twice
  twice_here e h k t = rw (opened e h k, t)

  pub twice_next : length l.entries ≡ 13 → i < 13 → i < l.count → carried_in (drop (i + 1) (entries_of l)) (get_or l.entries i unused).code ≡ false
      → twice (drop i (entries_of l)) ≡ twice (drop (i + 1) (entries_of l))
  unfolding twice
  twice_next e h k t = ap twice (opened e h k) ∙ ap (λ b. b || twice (drop (i + 1) (entries_of l))) t

  pub twice_past : l.count ≤ i → twice (drop i (entries_of l)) ≡ false
  unfolding twice
  twice_past k = rw (drop_of_length-le (entries_of l) {i = i} (simp length-take (omega arith)))

  pub twice_end : length l.entries ≡ 13 → 13 ≤ i → twice (drop i (entries_of l)) ≡ false
  unfolding twice
  twice_end e h = rw (drop_of_length-le (entries_of l) {i = i} (simp length-take (omega arith)))

-- ---- an entry outside the line

abbrev pub outside : ℕ → Entry → Bool
outside n e = not (is_inside n e)

abbrev pub placed : ℕ → Entry → ℕ
placed k e = k

pub inside_clear : (n : ℕ) (es : List Entry) → first_of (outside n) placed es 0 ≡ None → true ≡ are_inside n es
unfolding are_inside
inside_clear n es e = rw e

pub inside_bad : (n k : ℕ) (es : List Entry) → first_of (outside n) placed es 0 ≡ Some k → false ≡ are_inside n es
unfolding are_inside
inside_bad n k es e = rw e
