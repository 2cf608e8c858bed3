-- The layouts that a line can spell.
use Rattle.std.specs.Prelude.{ℕ, ◌≤◌, ◌<◌, get_or}
use Rattle.rules.specs.Layouts.{unused}
use Rattle.rules.specs.declared.Layout.{Layout}

-- a layout of 13 entries at most, the codes of three bytes each
pub record Spellable (l : Layout) : Type 0 where
  pub few : l.count ≤ 13
  pub codes : (i : ℕ) → i < l.count → (get_or l.entries i unused).code < 16777216
