-- The promises of the parts that layouts are read and judged with.
use Rattle.std.specs.Prelude.{ℕ, Bool, ◌&&◌, ◌≡◌, Result}
use Rattle.rules.specs.Families.{first_start}
use Rattle.rules.specs.Refusals.{refusal}
use Rattle.rules.specs.Layouts.{placed, is_spelt, is_said, LayoutTold, line_length}
use Rattle.rules.specs.declared.Refusal.{Refusal}
use Rattle.rules.specs.declared.Entry.{Entry}
use Rattle.rules.specs.declared.Layout.{Layout}
use Rattle.rules.specs.declared.Family.{Family}

-- whether a line can tell an entry behind others
abbrev pub EntryTest : ℕ → Layout → Entry → Bool → Type 0
EntryTest start before e r = r ≡ (is_spelt e && is_said (placed start before e 0))

-- no layout: the refusal alone
abbrev pub LayoutRefused : Refusal → Result Layout Refusal → Type 0
LayoutRefused why r = LayoutTold (refusal why) r

-- how many bytes a line has by a layout, allowed or not
abbrev pub LineLength : Family → Layout → ℕ → Type 0
LineLength f l r = r ≡ line_length (first_start f) l
