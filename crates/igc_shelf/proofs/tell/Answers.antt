-- The part of the buffer that the flight is named by is the number.
use Rattle.std.proofs.Common.{rules}
use Rattle.igc_notice.proofs.Callers.{piece_fits, piece_counts}
use Rattle.igc_shelf.proofs.tell.Goals as goal

pub slice_bounds-word-end : goal.slice_bounds-word-end
slice_bounds-word-end g c = search (piece_fits, rules)

pub slice_bounds-tell_named-end : goal.slice_bounds-tell_named-end
slice_bounds-tell_named-end g c = search (piece_counts, rules)
