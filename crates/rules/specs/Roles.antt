-- Document 01, 'Which kind may follow which': what each kind of line does in a file, and the part of the file that it leads to.
use Rattle.std.specs.Prelude.{ℕ, ◌-◌, Bool, true, false, ◌&&◌, cond, leb, None, Option, Some}
use Rattle.rules.specs.Choice.{need}
use Rattle.rules.specs.declared.Extra.{Extra}
use Rattle.rules.specs.declared.Extra.TheVariants as extra
use Rattle.rules.specs.declared.Family.{Family}
use Rattle.rules.specs.declared.Family.TheVariants as family
use Rattle.rules.specs.declared.Kind.{Kind}
use Rattle.rules.specs.declared.Kind.TheVariants as kind
use Rattle.rules.specs.declared.Role.{Role}
use Rattle.rules.specs.declared.Role.TheVariants as role

-- what each kind does; which letters are a family's stands in Families
abbrev pub role_of : Kind → Role
role_of kind.A = role.Opens
role_of kind.B = role.Columned family.B
role_of kind.C = role.Declares
role_of kind.D = role.Differential
role_of kind.E = role.Event
role_of kind.F = role.Satellites
role_of kind.G = role.Seals
role_of kind.H = role.Heads
role_of kind.I = role.Tells family.B
role_of kind.J = role.Tells (family.Extra extra.K)
role_of kind.K = role.Columned (family.Extra extra.K)
role_of kind.L = role.Remark
role_of kind.M = role.Tells (family.Extra extra.N)
role_of kind.N = role.Columned (family.Extra extra.N)
role_of kind.Other = role.Other
role_of kind.NoKind = role.NoRole

-- ---- tests of a role

-- the role of a line whose first byte is A to Z
abbrev pub is_role : Role → Bool
is_role = elim [ role.Opens ↦ true | role.Heads ↦ true | role.Tells f ↦ true | role.Columned f ↦ true | role.Declares ↦ true | role.Event ↦ true | role.Satellites ↦ true | role.Differential ↦ true | role.Seals ↦ true | role.Remark ↦ true | role.Other ↦ true | role.NoRole ↦ false ]

-- a line of a declaration
abbrev pub is_declaring : Role → Bool
is_declaring = elim [ role.Opens ↦ false | role.Heads ↦ false | role.Tells f ↦ false | role.Columned f ↦ false | role.Declares ↦ true | role.Event ↦ false | role.Satellites ↦ false | role.Differential ↦ false | role.Seals ↦ false | role.Remark ↦ false | role.Other ↦ false | role.NoRole ↦ false ]

-- "Line 1 is A, line 2 is H, then further H lines"
abbrev pub is_front : Role → Bool
is_front = elim [ role.Opens ↦ true | role.Heads ↦ true | role.Tells f ↦ false | role.Columned f ↦ false | role.Declares ↦ false | role.Event ↦ false | role.Satellites ↦ false | role.Differential ↦ false | role.Seals ↦ false | role.Remark ↦ false | role.Other ↦ false | role.NoRole ↦ false ]

-- a line after the layout lines that has no columns
abbrev pub is_bare : Role → Bool
is_bare = elim [ role.Opens ↦ false | role.Heads ↦ false | role.Tells f ↦ false | role.Columned f ↦ false | role.Declares ↦ true | role.Event ↦ true | role.Satellites ↦ true | role.Differential ↦ true | role.Seals ↦ true | role.Remark ↦ true | role.Other ↦ true | role.NoRole ↦ false ]

-- an E line
abbrev pub is_event : Role → Bool
is_event = elim [ role.Opens ↦ false | role.Heads ↦ false | role.Tells f ↦ false | role.Columned f ↦ false | role.Declares ↦ false | role.Event ↦ true | role.Satellites ↦ false | role.Differential ↦ false | role.Seals ↦ false | role.Remark ↦ false | role.Other ↦ false | role.NoRole ↦ false ]

-- a G line
abbrev pub is_sealing : Role → Bool
is_sealing = elim [ role.Opens ↦ false | role.Heads ↦ false | role.Tells f ↦ false | role.Columned f ↦ false | role.Declares ↦ false | role.Event ↦ false | role.Satellites ↦ false | role.Differential ↦ false | role.Seals ↦ true | role.Remark ↦ false | role.Other ↦ false | role.NoRole ↦ false ]

-- "B, E, F and K lines run in time order."; of N lines: "and it joins the time order"
abbrev pub is_timed : Role → Bool
is_timed = elim [ role.Opens ↦ false | role.Heads ↦ false | role.Tells f ↦ false | role.Columned f ↦ true | role.Declares ↦ false | role.Event ↦ true | role.Satellites ↦ true | role.Differential ↦ false | role.Seals ↦ false | role.Remark ↦ false | role.Other ↦ false | role.NoRole ↦ false ]

abbrev pub same_extra : Extra → Extra → Bool
same_extra extra.K extra.K = true
same_extra extra.K extra.N = false
same_extra extra.N extra.K = false
same_extra extra.N extra.N = true

abbrev pub same_family : Family → Family → Bool
same_family family.B family.B = true
same_family family.B (family.Extra d) = false
same_family (family.Extra e) family.B = false
same_family (family.Extra e) (family.Extra d) = same_extra e d

-- a line of a family
abbrev pub is_of : Family → Role → Bool
is_of g = elim [ role.Opens ↦ false | role.Heads ↦ false | role.Tells f ↦ false | role.Columned f ↦ same_family g f | role.Declares ↦ false | role.Event ↦ false | role.Satellites ↦ false | role.Differential ↦ false | role.Seals ↦ false | role.Remark ↦ false | role.Other ↦ false | role.NoRole ↦ false ]

-- ---- the parts of a file, as far as its lines have come, each later than the one before

abbrev pub at_start : ℕ
at_start = 0

abbrev pub after_a : ℕ
after_a = 1

abbrev pub after_h : ℕ
after_h = 2

-- behind the line that tells a family's layout
abbrev pub after_layout : Family → ℕ
after_layout family.B = 3
after_layout (family.Extra extra.K) = 4
after_layout (family.Extra extra.N) = 5

abbrev pub in_body : ℕ
in_body = 6

abbrev pub after_g : ℕ
after_g = 7

abbrev pub after_last_g : ℕ
after_last_g = 8

-- from the parts `low` to `high` the line leads to the part `next`; from any other it may not come
abbrev pub leading : ℕ → ℕ → ℕ → ℕ → Option ℕ
leading low high next stage = need (leb low stage && leb stage high) None λ _. Some next

-- "After these come C, D, E, F, B, K, L and other, with no further A, H, I, J."; so do N lines, and no further M
abbrev pub body_after : ℕ → Option ℕ
body_after stage = leading after_h in_body in_body stage

-- "Line 1 is A, line 2 is H, then further H lines, then at most one I, then at most one J."; "M is built as J is, at most one, straight after J, or after I or the H lines
-- if those are missing."
-- "Then one or more G lines. After the first G only G or L; after an L that follows a G, only L. So a B after G is refused, as 000 A2.3.1 demands."
unfoldable pub stage_after : Role → ℕ → Option ℕ
stage_after role.Opens stage = leading at_start at_start after_a stage
stage_after role.Heads stage = leading after_a after_h after_h stage
stage_after (role.Tells f) stage = leading after_h (after_layout f - 1) (after_layout f) stage
stage_after (role.Columned f) stage = body_after stage
stage_after role.Declares stage = body_after stage
stage_after role.Event stage = body_after stage
stage_after role.Satellites stage = body_after stage
stage_after role.Differential stage = body_after stage
stage_after role.Seals stage = leading after_h after_g after_g stage
stage_after role.Remark stage = cond (leb stage in_body) (body_after stage) (leading after_g after_last_g after_last_g stage)
stage_after role.Other stage = body_after stage
stage_after role.NoRole stage = None
