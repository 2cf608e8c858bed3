-- `columns_asked::spots_of` meets its contract: what is left to be put from each code on gives all places. Assumes nothing.
use Rattle.columns_asked.proofs.Asking.{Spotting}
use Rattle.columns_asked.proofs.spots_of.Given as goal

abbrev pub invariant-loop-i : goal.invariant-loop-i
invariant-loop-i l = Spotting l.codes l.n l.layout l.spots l.i
