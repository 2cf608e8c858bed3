-- `notes_runs::line_after` meets its contract: up to CR, and two bytes more. Assumes nothing.
use Prim.Native.Nat.{◌-◌}
use native.Mathlib.Omega.{arith}
use lib.ListN.{length, drop, length-drop}
use lib.Seq.{take_all}
use Rattle.notes_runs.proofs.Runs.{line_after_is}
use Rattle.notes_runs.proofs.line_after.Goals as goal

pub returns : goal.returns
returns c =
    let s = c.args.s.now in
    let i = c.args.i in
    line_after_is s i _ (rw (c.first_cr.ensures, take_all (length s - i) (drop i s) (omega (arith, length-drop i s))) at c.unwrap_or.ensures)
