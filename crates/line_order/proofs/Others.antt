-- What a line's role is where a `match` on it took no arm of its own: it is none of those that have one. Assumes nothing.
use Prim.Native.Nat.{ℕ}
use mathlib.Core.Bool.{true, false}
use mathlib.Core.Path.{◌≡◌, refl}
use Rattle.rules.specs.Roles.{is_declaring, is_role, body_after, stage_after}
use Rattle.rules.specs.declared.Family.{Family}
use Rattle.rules.specs.declared.Role.{Role}
use Rattle.rules.specs.declared.Role.TheVariants as role

-- all but the declaration's
pub other_declaring : (r : Role) → (r ≡ role.Declares → ⊥) → false ≡ is_declaring r
other_declaring role.Opens h = refl
other_declaring role.Heads h = refl
other_declaring (role.Tells f) h = refl
other_declaring (role.Columned f) h = refl
other_declaring role.Declares h = absurd (h refl)
other_declaring role.Event h = refl
other_declaring role.Satellites h = refl
other_declaring role.Differential h = refl
other_declaring role.Seals h = refl
other_declaring role.Remark h = refl
other_declaring role.Other h = refl
other_declaring role.NoRole h = refl

-- all but no role
pub some_role : (r : Role) → (r ≡ role.NoRole → ⊥) → true ≡ is_role r
some_role role.Opens h = refl
some_role role.Heads h = refl
some_role (role.Tells f) h = refl
some_role (role.Columned f) h = refl
some_role role.Declares h = refl
some_role role.Event h = refl
some_role role.Satellites h = refl
some_role role.Differential h = refl
some_role role.Seals h = refl
some_role role.Remark h = refl
some_role role.Other h = refl
some_role role.NoRole h = absurd (h refl)

-- those of the body alone
pub body_role : (r : Role) (stage : ℕ) → (r ≡ role.Opens → ⊥) → (r ≡ role.Heads → ⊥) → ((f : Family) → r ≡ role.Tells f → ⊥) → (r ≡ role.Seals → ⊥) → (r ≡ role.Remark → ⊥) → (r ≡ role.NoRole → ⊥) → body_after stage ≡ stage_after r stage
unfolding stage_after
body_role role.Opens stage o h t s m n = absurd (o refl)
body_role role.Heads stage o h t s m n = absurd (h refl)
body_role (role.Tells f) stage o h t s m n = absurd (t f refl)
body_role (role.Columned f) stage o h t s m n = refl
body_role role.Declares stage o h t s m n = refl
body_role role.Event stage o h t s m n = refl
body_role role.Satellites stage o h t s m n = refl
body_role role.Differential stage o h t s m n = refl
body_role role.Seals stage o h t s m n = absurd (s refl)
body_role role.Remark stage o h t s m n = absurd (m refl)
body_role role.Other stage o h t s m n = refl
body_role role.NoRole stage o h t s m n = absurd (n refl)
