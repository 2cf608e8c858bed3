-- The links of the look. Assumes nothing.
use Rattle.std.specs.Prelude.{Err, None, Ok, Option, Result, Some}
use Prim.Native.Nat.{ℕ}
use mathlib.Core.List.{List, []}
use mathlib.Core.Path.{◌≡◌}
use Rattle.rules.specs.Choice.{given}
use Rattle.rules.specs.declared.Span.{Span}
use Rattle.rules.specs.Layouts.{look, column_text}
use Rattle.rules.specs.Looks.{look_text}
use Rattle.rules.specs.Numbers.{whole_of}
use Rattle.rules.specs.Refusals.{Said, says, no, result_told}
use Rattle.rules.specs.declared.Layout.{Layout}
use Rattle.rules.specs.declared.Reason.TheVariants.{Absent}
use Rattle.rules.specs.declared.Refusal.{Refusal}
use Rattle.rules.specs.declared.Signed.{Signed}
use Rattle.rules.proofs.Links.{then_ok, then_err}

-- ---- a column by its code: y is the number that the code's three bytes make

pub spot_there : (l : Layout) (x y : ℕ) (r : Option Span) (s : Span) (z : Said Span) → r ≡ look l y → y ≡ x → r ≡ Some s → z ≡ says s → z ≡ given (look l x) (no Absent 0) (λ s. says s)
spot_there l x y r s z t q g h = rw (← q, ← t, g) h

pub spot_nowhere : (l : Layout) (x y : ℕ) (r : Option Span) (z : Said Span) → r ≡ look l y → y ≡ x → r ≡ None → z ≡ no Absent 0 → z ≡ given (look l x) (no Absent 0) (λ s. says s)
spot_nowhere l x y r z t q g h = rw (← q, ← t, g) h

-- ---- the text of a column that was found; there is none behind a refusal

module _ (l : List ℕ) (s : Said Span) (r : Result Span Refusal) (e : result_told r ≡ s) where
  pub text_there : (a b : ℕ) (x : List ℕ) → r ≡ Ok (record { first = a; last = b }) → x ≡ column_text l (record { first = a; last = b }) → x ≡ look_text l s
  unfolding result_told look_text
  text_there a b x g k = rw (← e, g) k

  pub text_none : (w : Refusal) → r ≡ Err w → [] ≡ look_text l s
  unfolding result_told look_text
  text_none w g = rw (← e, g)

pub ruleset cut = (text_there, text_none)

-- the number of a text t that is the column's
pub text_number : {B : Type 0} (u t : List ℕ) (r : Option Signed) (v : Signed) (x a : B) (f : Signed → B) → r ≡ whole_of t → t ≡ u → r ≡ Some v → x ≡ f v → x ≡ given (whole_of u) a f
text_number u t r v x a f e q g h = rw (← q, ← e, g) h

pub text_no_number : {B : Type 0} (u t : List ℕ) (r : Option Signed) (x a : B) (f : Signed → B) → r ≡ whole_of t → t ≡ u → r ≡ None → x ≡ a → x ≡ given (whole_of u) a f
text_no_number u t r x a f e q g h = rw (← q, ← e, g) h

pub ruleset texts = (then_ok, then_err, text_number, text_no_number)
