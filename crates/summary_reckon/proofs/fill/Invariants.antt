-- `summary_reckon::fill` meets its contract: what is left to be put and joined from here gives the whole list. Assumes nothing.
use Rattle.track_step.specs.Steps.{step_of}
use Rattle.summary_reckon.proofs.Turning.{Fills}
use Rattle.summary_reckon.proofs.fill.Given as goal

abbrev pub invariant-loop-k : goal.invariant-loop-k
invariant-loop-k l = Fills (step_of l.file) l.initial.whole.next l.count l.keep l.initial.list l.list l.whole l.k
