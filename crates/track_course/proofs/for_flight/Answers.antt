-- `track_course::for_flight` meets its contract. Assumes nothing.
use borrow.Author.Rules.{rules}
use Rattle.track_course.proofs.Planned.{flight_short, flight_fits}
use Rattle.track_course.proofs.for_flight.Goals as goal

pub returns-then-room-count : goal.returns-then-room-count
returns-then-room-count c = flight_short c.args.flight _ _ _ (search rules) c.unplaced.ensures c.refused.ensures

pub returns : goal.returns
returns c = flight_fits c.args.flight _ _ _ (search rules) c.fix_size.ensures c.set_out.ensures
