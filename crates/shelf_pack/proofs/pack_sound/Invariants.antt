-- `shelf_pack::pack_sound` meets its contract: before each turn the bodies that started before `from` are packed below `at`, and all else is as it was. Assumes nothing.
use Prim.Native.Nat.{◌-◌}
use lib.ListN.{length}
use Rattle.shelf_rules.proofs.Mids.{Mid}
use Rattle.shelf_pack.proofs.pack_sound.Given as goal

abbrev pub invariant-loop-n : goal.invariant-loop-n
invariant-loop-n l = Mid l.initial.shelf l.at l.from l.shelf

abbrev pub decreases-loop-n : goal.decreases-loop-n
decreases-loop-n l = length l.initial.shelf - l.from
