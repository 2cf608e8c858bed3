-- `shelf_contents::slot_sound` meets its contract: the entries below m are kept beside entry n. Assumes nothing.
use mathlib.Core.Bool.{true}
use mathlib.Core.Path.{◌≡◌}
use Rattle.shelf_rules.specs.Ranges.{every}
use Rattle.shelf_rules.specs.Contents.{pair_kept}
use Rattle.shelf_contents.proofs.slot_sound.Given as goal

abbrev pub invariant-loop-m : goal.invariant-loop-m
invariant-loop-m l = every (pair_kept l.b l.n) l.m ≡ true
