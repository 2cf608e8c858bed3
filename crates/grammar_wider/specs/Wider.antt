-- Demand 3, to add columns to the B lines, the K lines or the N lines of a file: which lines may differ, and what each of them must still say.
use Rattle.std.specs.Prelude.{ℕ, ◌+◌, ◌-◌, true, false, List, [], ◌∷◌, ◌≡◌, length, get_or, take, None, Option, Some}
use Rattle.rules.specs.Families.{first_start, line_letter, layout_of, with_layout}
use Rattle.rules.specs.Choice.{given, byte, Each}
use Rattle.rules.specs.Refusals.{says, value_or, and_then}
use Rattle.rules.specs.Chars.{characters}
use Rattle.rules.specs.Listed.{off_limit, keeps_limit}
use Rattle.rules.specs.Layouts.{entries_of, span_of, look, carries, column_text, line_length}
use Rattle.rules.specs.Lines.{kind_of, fix_fields, at_limit}
use Rattle.rules.specs.Roles.{role_of, is_front, is_bare}
use Rattle.rules.specs.Order.{no_flight}
use Rattle.rules.specs.Split.{Lines, end, line, lines_of}
use Rattle.rules.specs.Reads.{layout_said}
use Rattle.rules.specs.declared.AtLimit.{AtLimit}
use Rattle.rules.specs.declared.Entry.{Entry}
use Rattle.rules.specs.declared.Layout.{Layout}
use Rattle.rules.specs.declared.Extra.TheVariants as extra
use Rattle.rules.specs.declared.Family.{Family}
use Rattle.rules.specs.declared.Family.TheVariants as family
use Rattle.rules.specs.declared.Layouts.{Layouts}

-- ---- a layout

-- how wide the column of a code is, where the layout has one
unfoldable pub width_in : Layout → ℕ → Option ℕ
width_in layout x = given (look layout x) None λ s. Some (s.last + 1 - s.first)

-- Demand 3: the new layout has every column of the old one, as wide as it was, at any place. Its other columns are the added ones; their codes are different, and none
-- is in the old layout, since "No code comes twice in one layout."
abbrev pub Extends : Layout → Layout → Type 0
Extends old new = Each (λ (e : Entry). width_in new e.code ≡ width_in old e.code) (entries_of old)

-- ---- a B line, a K line or an N line

-- the text of the column of a code in a line, where the layout has one
unfoldable pub text_in : Layout → List ℕ → ℕ → Option (List ℕ)
text_in layout l x = given (look layout x) None λ s. Some (column_text l s)

-- which coordinates of a line of the family are at their limits: of a B line by its fields; K and N lines have none
unfoldable pub limits_of : Family → List ℕ → AtLimit
limits_of family.B l = value_or off_limit (and_then (fix_fields l) λ f. says (at_limit f))
limits_of (family.Extra x) l = off_limit

-- Demand 3: the text of an added column has characters that are valid in that line (8), and keeps the rule of a listed code (13); "LAD or LOD digits other than zeros break their
-- column's rule where the plain count is already at its limit" (document 02)
pub record KeepsRules (at : AtLimit) (x : ℕ) (text : List ℕ) : Type 0 where
  pub valid : characters false text ≡ says tt
  pub rule : keeps_limit at x text ≡ true

-- Line l of the family by the old layout, and l' by the new one: the fields before the columns are as they were, l' is as long as the new layout gives, every old column has its
-- old text, and every added one keeps the rules.
pub record WiderLine (f : Family) (old new : Layout) (l l' : List ℕ) : Type 0 where
  pub fields : take (byte (first_start f)) l' ≡ take (byte (first_start f)) l
  pub long : length l' ≡ line_length (first_start f) new
  pub kept : Each (λ (e : Entry). text_in new l' e.code ≡ text_in old l e.code) (entries_of old)
  pub added : Each (λ (e : Entry). carries old e.code ≡ false → KeepsRules (limits_of f l) e.code (column_text l' (span_of e))) (entries_of new)

-- ---- the lines of a file, in the order of their kinds

-- After the layout lines: the lines of each family are widened from its old layout to its new one, the others stay.
pub data AfterLayouts (old new : Layouts) : Lines → Lines → Type 0 where
  done : AfterLayouts old new end end
  same : {t : List ℕ} {ls ls' : Lines} → is_bare (role_of (kind_of (get_or t 0 0))) ≡ true → AfterLayouts old new ls ls' → AfterLayouts old new (line t ls) (line t ls')
  columned : {t t' : List ℕ} {ls ls' : Lines} (f : Family) → get_or t 0 0 ≡ line_letter f → WiderLine f (layout_of f old) (layout_of f new) t t'
      → AfterLayouts old new ls ls' → AfterLayouts old new (line t ls) (line t' ls')

-- At the places of the lines that tell the layouts of these families, in this order, behind the layouts told so far. At each place there is none before and after; or it
-- is changed in place; or, where there was none, it is put in. Then come the other lines.
pub data LayoutLines : List Family → Layouts → Layouts → Lines → Lines → Type 0 where
  all : {old new : Layouts} {ls ls' : Lines} → AfterLayouts old new ls ls' → LayoutLines [] old new ls ls'
  without : {f : Family} {fs : List Family} {old new : Layouts} {ls ls' : Lines} → LayoutLines fs old new ls ls' → LayoutLines (f ∷ fs) old new ls ls'
  changed : {f : Family} {fs : List Family} {old new : Layouts} {t t' : List ℕ} {i i' : Layout} {ls ls' : Lines} → layout_said f t ≡ says i → layout_said f t' ≡ says i'
      → Extends i i' → LayoutLines fs (with_layout f i old) (with_layout f i' new) ls ls' → LayoutLines (f ∷ fs) old new (line t ls) (line t' ls')
  put : {f : Family} {fs : List Family} {old new : Layouts} {t' : List ℕ} {i' : Layout} {ls ls' : Lines} → layout_said f t' ≡ says i'
      → LayoutLines fs old (with_layout f i' new) ls ls' → LayoutLines (f ∷ fs) old new ls (line t' ls')

-- "then at most one I, then at most one J"; of M: "straight after J, or after I or the H lines if those are missing"
abbrev pub families : List Family
families = family.B ∷ family.Extra extra.K ∷ family.Extra extra.N ∷ []

-- where no such line came: "with NN 00, or no such line"
abbrev pub no_layouts : Layouts
no_layouts = no_flight.layouts

-- The lines of a file, and those of one with added columns: the A line and the H lines stay; then come the layout lines, and then the other lines.
pub data Wider : Lines → Lines → Type 0 where
  front : {t : List ℕ} {ls ls' : Lines} → is_front (role_of (kind_of (get_or t 0 0))) ≡ true → Wider ls ls' → Wider (line t ls) (line t ls')
  from : {ls ls' : Lines} → LayoutLines families no_layouts no_layouts ls ls' → Wider ls ls'

-- file' is file with columns added
abbrev pub WiderFile : List ℕ → List ℕ → Type 0
WiderFile file file' = Wider (lines_of file) (lines_of file')
