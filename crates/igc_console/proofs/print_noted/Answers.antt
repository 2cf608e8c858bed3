-- The part of the buffer that is written is the text.
use Rattle.std.proofs.Common.{rules}
use Rattle.igc_notice.proofs.Callers.{piece_fits, piece_counts}
use Rattle.igc_console.proofs.print_noted.Goals as goal

pub slice_bounds-out-end : goal.slice_bounds-out-end
slice_bounds-out-end g c = search (piece_fits, rules)

pub slice_bounds-write-end : goal.slice_bounds-write-end
slice_bounds-write-end g c = search (piece_counts, rules)
