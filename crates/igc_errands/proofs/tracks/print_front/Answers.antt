-- The part of the text that is written is in it.
use Rattle.std.proofs.Common.{rules}
use Rattle.igc_notice.proofs.Callers.{piece_fits, piece_counts}
use Rattle.igc_errands.proofs.tracks.print_front.Goals as goal

pub slice_bounds-text-end : goal.slice_bounds-text-end
slice_bounds-text-end g c = search (piece_fits, rules)

pub slice_bounds-write-end : goal.slice_bounds-write-end
slice_bounds-write-end g c = search (piece_counts, rules)
