-- The links of a chain where the code goes out by `?`: what a look-up found or the refusal in its place, and a refusal that is handed on. Assumes nothing.
use Rattle.std.specs.Prelude.{Option, Some, None, Result, Ok, Err}
use Rattle.std.specs.Option.{ok_or}
use Rattle.std.specs.Result.{IsErrAnd}
use Rattle.std.proofs.lemmas.Result.{err_from_is_err_and}
use mathlib.Core.Path.{◌≡◌}
use Rattle.rules.specs.Choice.{given}
use Rattle.rules.specs.Refusals.{Said, says, refusal, result_told}
use Rattle.rules.specs.declared.Refusal.{Refusal}

-- n is what a definition looks up and r what the code found of it; q is r with the refusal e in place of nothing
module _ {A B : Type 0} where
  pub found_ok : (n r : Option A) (e : Refusal) (q : Result A Refusal) (v : A) (x a : B) (f : A → B) → r ≡ n → q ≡ ok_or r e → q ≡ Ok v → x ≡ f v → x ≡ given n a f
  found_ok (Some y) r e q v x a f h k g z = let s : y ≡ v = cc in rw s z
  found_ok None r e q v x a f h k g z = cc

  pub found_err : (n r : Option A) (e : Refusal) (q : Result A Refusal) (w : Refusal) (a : Said B) (f : A → Said B)
      → r ≡ n → q ≡ ok_or r e → q ≡ Err w → refusal e ≡ a → refusal w ≡ given n a f
  found_err (Some y) r e q w a f h k g z = cc
  found_err None r e q w a f h k g z = let s : e ≡ w = cc in rw (← s) z

-- what was found as the whole answer, or the refusal in its place
pub found_told : {A : Type 0} (n r : Option A) (e : Refusal) (q : Result A Refusal) (a : Said A) → r ≡ n → q ≡ ok_or r e → refusal e ≡ a → result_told q ≡ given n a says
unfolding result_told
found_told (Some y) r e q a f h z = rw (h, f)
found_told None r e q a f h z = rw (h, f) z

-- what was found where the answer is Ok
pub found_some : {A : Type 0} (r : Option A) (e : Refusal) (q : Result A Refusal) (v : A) → q ≡ ok_or r e → q ≡ Ok v → r ≡ Some v
found_some (Some y) e q v h g = let s : y ≡ v = cc in rw s
found_some None e q v h g = cc

-- r is what `?` goes out with, w the refusal that it was handed
pub handed_on : {A : Type 0} (r : Result A Refusal) (w : Refusal) (s : Said A) → IsErrAnd r (λ y. y ≡ w) → refusal w ≡ s → result_told r ≡ s
unfolding result_told
handed_on r w s h e = let p = err_from_is_err_and r h in rw (p.1, p.2) e

pub ruleset found = (found_ok, found_err, found_told)
