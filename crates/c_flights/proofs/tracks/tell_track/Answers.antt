-- `c_flights::tracks::tell_track` meets its contract. Assumes nothing.
use borrow.Author.Rules.{rules}
use Rattle.c_answers.proofs.Laws.{same_numbers}
use Rattle.c_flights.proofs.tracks.tell_track.Goals as goal

pub returns : goal.returns
returns c = same_numbers _ _ _ _ _ _ c.count.ensures c.give.ensures
