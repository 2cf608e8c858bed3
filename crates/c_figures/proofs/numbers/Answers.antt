-- `c_figures::numbers` meets its contract. Assumes nothing.
use borrow.Author.Rules.{rules}
use Rattle.c_figures.specs.Figures.{checked_numbers}
use Rattle.c_figures.proofs.Laws.{outcome_good, outcome_bad}
use Rattle.c_figures.proofs.numbers.Goals as goal

pub returns-in-Ok : goal.returns-in-Ok
unfolding checked_numbers
returns-in-Ok c = search outcome_good depth 6

pub returns-in-Err : goal.returns-in-Err
unfolding checked_numbers
returns-in-Err c = search outcome_bad depth 6
