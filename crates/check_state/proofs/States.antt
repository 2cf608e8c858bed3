-- A state's few counts: the test agrees with the record. Assumes nothing.
use mathlib.Core.Bool.{true}
use mathlib.Core.Path.{◌≡◌}
use borrow.Author.Tests.{le-leb, leb-true}
use Rattle.rules.specs.declared.State.{State}
use Rattle.rules.proofs.Inverse.{and_inv}
use Rattle.check_counts.specs.Counting.{is_few, are_few}
use Rattle.check_counts.proofs.Counting.{few_are, are_few_lem}
use Rattle.check_state.specs.States.{Few, has_few}

pub few_has : (st : State) → Few st → has_few st ≡ true
unfolding has_few
few_has st f = rw (le-leb _ _ f.lines, few_are st.flight.counts f.count)

pub has_few_lem : (st : State) → has_few st ≡ true → Few st
unfolding has_few
has_few_lem st e =
    let t = and_inv (is_few st.flight.lines) (are_few st.flight.counts) e in
    record { lines = leb-true _ _ t.0; count = are_few_lem st.flight.counts t.1 }
