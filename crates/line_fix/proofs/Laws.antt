-- A field that breaks its rule, and what `search` puts the ways out of the fields together from. Assumes nothing.
use Prim.Native.Nat.{ℕ}
use mathlib.Core.Path.{◌≡◌}
use borrow.Author.Tests.{not-true, not-false}
use Rattle.rules.specs.Refusals.{Said, refusal, breaks}
use Rattle.rules.specs.declared.Class.{Class}
use Rattle.rules.specs.declared.Refusal.{Refusal}
use Rattle.rules.proofs.Links.{need_true, need_false, on_is, given_some, given_none}
use Rattle.line_fix.specs.Parts.{form_at}

pub refuses_form : {A : Type 0} (w : Refusal) (c : Class) (first : ℕ) → w ≡ form_at c first → ◌≡◌ {A = Said A} (refusal w) (breaks c first)
refuses_form w c first e = rw e

pub ruleset fixes = (refuses_form, not-true, not-false, need_true, need_false, on_is, given_some, given_none)
