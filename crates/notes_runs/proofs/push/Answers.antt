-- `notes_runs::push` meets its contract: the places from p on are moved on by one. Assumes nothing.
use Prim.Native.Nat.{ℕ}
use mathlib.Core.List.{List}
use mathlib.Core.Path.{ap, ◌∙◌}
use lib.ListN.{set}
use Rattle.notes_runs.proofs.Runs.{pushed_none, pushed_some}
use Rattle.notes_runs.proofs.push.Goals as goal

pub returns-then-p-m : goal.returns-then-p-m
returns-then-p-m c =
    let p = c.args.p in
    let x = c.args.x in
    ap (λ (r : List ℕ). set r p x) c.copy_within.ensures.after ∙ pushed_some _ _ _ _ c.if-p-m.true c.requires

pub returns-else-p-m : goal.returns-else-p-m
returns-else-p-m c = pushed_none _ _ _ _ c.if-p-m.false
