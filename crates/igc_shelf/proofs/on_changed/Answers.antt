-- The part of the buffer that the new file is named by is the name.
use Rattle.std.proofs.Common.{rules}
use Rattle.igc_notice.proofs.Callers.{piece_fits, piece_counts}
use Rattle.igc_shelf.proofs.on_changed.Goals as goal

pub slice_bounds-new-end : goal.slice_bounds-new-end
slice_bounds-new-end g c = search (piece_fits, rules)

pub slice_bounds-claim-end : goal.slice_bounds-claim-end
slice_bounds-claim-end g c = search (piece_counts, rules)
