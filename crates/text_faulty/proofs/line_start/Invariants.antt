-- `text_faulty::line_start` meets its contract: the lines that are left lead to the line asked for. Assumes nothing.
use Prim.Native.Nat.{◌-◌}
use Rattle.text_faulty.proofs.Places.{Walked}
use Rattle.text_faulty.proofs.line_start.Given as goal

abbrev pub invariant-loop : goal.invariant-loop
invariant-loop l = Walked l.file l.lines l.at (l.lines - l.counter)
