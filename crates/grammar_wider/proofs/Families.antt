-- What is shown family by family, once for all: the first byte of a family's lines stands before their columns, and their layout lines have an order. Assumes nothing.
use Prim.Native.Nat.{ℕ, ◌<◌}
use mathlib.Core.List.{List, [], ◌∷◌}
use mathlib.Core.Path.{◌≡◌, refl}
use native.Mathlib.Omega.{arith}
use lib.Dec.{lit<}
use Rattle.rules.specs.Choice.{byte}
use Rattle.rules.specs.Families.{first_start, layout_of}
use Rattle.rules.specs.Layouts.{empty_layout}
use Rattle.rules.specs.Roles.{after_h, after_layout, in_body}
use Rattle.rules.specs.declared.Family.{Family}
use Rattle.rules.specs.declared.Family.TheVariants as family
use Rattle.rules_sound.proofs.Families.{every}
use Rattle.grammar_wider.specs.Wider.{families, no_layouts}

-- the first byte is a field before the columns
pub first_byte : (f : Family) → 0 < byte (first_start f)
first_byte family.B = lit< tt
first_byte (family.Extra x) = lit< tt

-- no layout is told yet
pub none_yet : (f : Family) → layout_of f no_layouts ≡ empty_layout
none_yet = every (λ f. layout_of f no_layouts ≡ empty_layout) refl refl refl

-- ---- the families in the order of their layout lines, all of them behind the part `low` and before the body

abbrev pub Ordered : ℕ → List Family → Type 0
Ordered low [] = low < in_body
Ordered low (f ∷ fs) = (low < after_layout f) × Ordered (after_layout f) fs

pub in_order : Ordered after_h families
in_order = (omega arith, (omega arith, (omega arith, omega arith)))
