-- Reading m + n digits is reading m and then n, whatever stands there; and where a text ends before, there is no number. Assumes nothing.
use Rattle.std.specs.Prelude.{None, Option, Some}
use Prim.Native.Nat.{ℕ, zero, suc, ◌+◌, ◌-◌, ◌*◌, ◌^◌, ◌≤◌}
use mathlib.Core.Bool.{Bool, true, false, cond}
use mathlib.Core.List.{List, [], ◌∷◌}
use mathlib.Core.Path.{◌≡◌, refl, sym, ap, ◌∙◌}
use native.Mathlib.Nat.{add-zero, zero-add, suc-add, pow-succ', mul_assoc}
use native.Mathlib.Omega.{arith}
use borrow.Author.Tests.{le-leb}
use lib.ListN.{length, get_or, drop}
use lib.Seq.{drop-drop}
use Rattle.rules.specs.Choice.{given}
use Rattle.rules.specs.Chars.{is_digit}
use Rattle.rules.specs.Numbers.{spell, number_at}
use Rattle.byte_number.proofs.Laws.{spell_more, spell_other}

under : (t : Bool) (x y : Option ℕ) (f : ℕ → Option ℕ) → x ≡ given y None f → cond t x None ≡ given (cond t y None) None f
under true x y f e = e
under false x y f e = refl

each : (o : Option ℕ) (f g : ℕ → Option ℕ) → ((v : ℕ) → f v ≡ g v) → given o None f ≡ given o None g
each None f g e = refl
each (Some v) f g e = e v

spell_split : (m n v : ℕ) (l : List ℕ) → spell (m + n) v l ≡ given (spell m v l) None (λ u. spell n u (drop m l))
unfolding spell
spell_split zero n v l = rw zero-add
spell_split (suc m) n v [] = rw suc-add
spell_split (suc m) n v (b ∷ l) = rw suc-add (under (is_digit b) _ _ _ (spell_split m n (v * 10 + (b - 48)) l))

-- what was spelt before moves up by n digits
spell_above : (n u v : ℕ) (l : List ℕ) → spell n (u + v) l ≡ given (spell n v l) None (λ w. Some (u * 10 ^ n + w))
unfolding spell
spell_above zero u v l = ap Some (omega arith)
spell_above (suc n) u v [] = refl
spell_above (suc n) u v (b ∷ l) =
    let e : (u + v) * 10 + (b - 48) ≡ u * 10 + (v * 10 + (b - 48)) = omega arith in
    rw (pow-succ', ← mul_assoc, e) (under (is_digit b) _ _ _ (spell_above n (u * 10) (v * 10 + (b - 48)) l))

pub number_joined : (s : List ℕ) (at m n : ℕ) → m + n ≤ 18
    → number_at s at (m + n) ≡ given (number_at s at m) None (λ v. given (number_at s (at + m) n) None (λ w. Some (v * 10 ^ n + w)))
unfolding number_at
number_joined s at m n h =
    rw (le-leb (m + n) 18 h, le-leb m 18 (omega arith), le-leb n 18 (omega arith), ← drop-drop m at s)
    (spell_split m n 0 (drop at s) ∙ each (spell m 0 (drop at s)) _ _ (λ u. rw add-zero at (spell_above n u 0 (drop m (drop at s)))))

-- ---- one digit

module _ (s : List ℕ) (i : ℕ) (h : i + 1 ≤ length s) where
  pub one_some : is_digit (get_or s i 0) ≡ true → Some (get_or s i 0 - 48) ≡ number_at s i 1
  unfolding number_at spell
  one_some d = sym (spell_more 1 0 s i (omega arith) (omega arith) d ∙ ap Some (omega arith))

  pub one_none : is_digit (get_or s i 0) ≡ false → None ≡ number_at s i 1
  unfolding number_at
  one_none d = sym (spell_other 1 0 s i (omega arith) (omega arith) d)
