-- Whether a look-up finds something, in the words of the library and of the definitions. Assumes nothing.
use Rattle.std.specs.Prelude.{None, Option, Some, Bool, true, false}
use Rattle.std.specs.Option.{is_some}
use mathlib.Core.Path.{◌≡◌}
use Rattle.rules.specs.Choice.{given}

pub is_there : {A : Type 0} (n r : Option A) (t : Bool) → r ≡ n → t ≡ is_some r → t ≡ given n false (λ s. true)
is_there (Some v) r t h g = rw (g, h)
is_there None r t h g = rw (g, h)
