-- The promises of the order of lines: which kind may follow which.
use Rattle.std.specs.Prelude.{ℕ, Bool, ◌≡◌, Option}
use Rattle.rules.specs.Files.{ends_after}
use Rattle.rules.specs.Order.{order_of}
use Rattle.rules.specs.Roles.{role_of, is_role}
use Rattle.rules.specs.declared.Kind.{Kind}
use Rattle.rules.specs.declared.Role.{Role}
use Rattle.rules.specs.declared.Seal.{Seal}
use Rattle.rules.specs.declared.State.{State}

abbrev pub EndGiven : Seal → ℕ → Type 0
EndGiven seal r = r ≡ ends_after seal

abbrev pub RoleGiven : Kind → Role → Type 0
RoleGiven k r = r ≡ role_of k

abbrev pub RoleTest : Role → Bool → Type 0
RoleTest r x = x ≡ is_role r

-- the part of a file that a line leads to, where it may come

abbrev pub OrderTold : Role → State → Option ℕ → Type 0
OrderTold r st x = x ≡ order_of r st
