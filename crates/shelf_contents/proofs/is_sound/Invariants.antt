-- `shelf_contents::is_sound` meets its contract: the entries below n are sound. Assumes nothing.
use mathlib.Core.Bool.{true}
use mathlib.Core.Path.{◌≡◌}
use Rattle.shelf_rules.specs.Ranges.{every}
use Rattle.shelf_rules.specs.Contents.{slot_sound}
use Rattle.shelf_contents.proofs.is_sound.Given as goal

abbrev pub invariant-loop-n : goal.invariant-loop-n
invariant-loop-n l = every (slot_sound l.b) l.n ≡ true
