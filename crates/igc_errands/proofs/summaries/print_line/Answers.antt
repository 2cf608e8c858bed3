-- The part of the buffer that is written is the line.
use Rattle.std.proofs.Common.{rules}
use Rattle.igc_notice.proofs.Callers.{piece_fits, piece_counts}
use Rattle.igc_errands.proofs.summaries.print_line.Goals as goal

pub slice_bounds-text-end : goal.slice_bounds-text-end
slice_bounds-text-end g c = search (piece_fits, rules)

pub slice_bounds-print_tabled-end : goal.slice_bounds-print_tabled-end
slice_bounds-print_tabled-end g c = search (piece_counts, rules)
