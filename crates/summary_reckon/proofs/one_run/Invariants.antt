-- `summary_reckon::one_run` meets its contract: what is left to be joined from here is the whole run. Assumes nothing.
use Rattle.track_step.specs.Steps.{step_of}
use Rattle.summary_reckon.proofs.Turning.{Joins}
use Rattle.summary_reckon.proofs.one_run.Given as goal

abbrev pub invariant-loop-i : goal.invariant-loop-i
invariant-loop-i l = Joins (step_of l.file) l.initial.next l.n l.sum l.next l.i
