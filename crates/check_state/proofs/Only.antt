-- One answer at most meets each promise of this crate. Assumes nothing.
use Prim.Native.Nat.{ℕ}
use Rattle.rules.specs.declared.Date.{Date}
use Rattle.rules.specs.declared.Family.{Family}
use Rattle.rules.specs.declared.Head.{Head}
use Rattle.rules.specs.declared.Layout.{Layout}
use Rattle.rules.specs.declared.Layouts.{Layouts}
use Rattle.rules.specs.declared.State.{State}
use Rattle.rules_only.proofs.Only.{Only, same}
use Rattle.check_state.specs.States.{FewTest, NoFlight, BeforeAll, Moved, Dated, LayoutKept, LaidOut, CountedIn, SignedOff, Begun, Pointed, Clocked}

pub only_few_test : (st : State) → Only (FewTest st)
only_few_test st = same

pub only_no_flight : Only NoFlight
only_no_flight = same

pub only_before_all : Only BeforeAll
only_before_all = same

pub only_moved : (stage : ℕ) (st : State) → Only (Moved stage st)
only_moved stage st = same

pub only_dated : (date : Date) (st : State) → Only (Dated date st)
only_dated date st = same

pub only_layout_kept : (f : Family) (ls : Layouts) → Only (LayoutKept f ls)
only_layout_kept f ls = same

pub only_laid_out : (f : Family) (layout : Layout) (st : State) → Only (LaidOut f layout st)
only_laid_out f layout st = same

pub only_counted_in : (f : Family) (st : State) → Only (CountedIn f st)
only_counted_in f st = same

pub only_signed_off : (st : State) → Only (SignedOff st)
only_signed_off st = same

pub only_begun : (head : Head) (st : State) → Only (Begun head st)
only_begun head st = same

pub only_pointed : (st : State) → Only (Pointed st)
only_pointed st = same

pub only_clocked : (t : ℕ) (st : State) → Only (Clocked t st)
only_clocked t st = same
