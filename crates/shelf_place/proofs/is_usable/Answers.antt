-- `shelf_place::is_usable` meets its contract: 0 is not usable, any other number is where no entry has it. Assumes nothing.
use mathlib.Core.Bool.{Bool, true, false, not}
use mathlib.Core.Path.{◌≡◌, refl}
use Rattle.std.specs.Prelude.{Option, Some, None}
use Rattle.std.specs.Option.{is_some}
use Rattle.rules.specs.Choice.{given}
use Rattle.shelf_rules.specs.Shelf.{usable}
use Rattle.shelf_rules.proofs.Tests.{and_yes, and_no}
use Rattle.shelf_place.proofs.Links.{not_zero, is_zero}
use Rattle.shelf_place.proofs.is_usable.Goals as goal

none_given : {A : Type 0} (n r : Option A) (x : Bool) → r ≡ n → is_some r ≡ not x → x ≡ given n true (λ _. false)
none_given n None true e h = rw (← e) refl
none_given n None false e h = cc
none_given n (Some v) true e h = cc
none_given n (Some v) false e h = rw (← e) refl

pub returns-then-number-ne0 : goal.returns-then-number-ne0
unfolding usable
returns-then-number-ne0 c = and_yes _ _ _ (not_zero _ c.if-number-ne0.true) (none_given _ _ _ c.entry_of.ensures c.is_none.ensures)

pub returns-else-number-ne0 : goal.returns-else-number-ne0
unfolding usable
returns-else-number-ne0 c = and_no _ _ _ (is_zero _ c.if-number-ne0.false) (is_zero _ c.if-number-ne0.false)
