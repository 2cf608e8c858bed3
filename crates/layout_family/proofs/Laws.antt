-- What `search` puts a way out together from, where code has asked for the family of a line. Assumes nothing.
use Rattle.std.specs.Prelude.{None, Option, Some}
use mathlib.Core.Path.{◌≡◌}
use Rattle.rules.specs.Choice.{given}
use Rattle.rules.specs.declared.Family.{Family}
use Rattle.rules.proofs.Links.{given_some, given_none}

-- the family f of a line, or none
pub family_of_lem : {B : Type 0} (n : Option Family) (r : Option Family) (f : Family) (x a : B) (g : Family → B) → r ≡ n → r ≡ Some f → x ≡ g f → x ≡ given n a g
family_of_lem n r f x a g e h k = given_some n r f x a g e h k

pub no_family : {B : Type 0} (n : Option Family) (r : Option Family) (x a : B) (g : Family → B) → r ≡ n → r ≡ None → x ≡ a → x ≡ given n a g
no_family n r x a g e h k = given_none n r x a g e h k

pub ruleset families = (family_of_lem, no_family)
