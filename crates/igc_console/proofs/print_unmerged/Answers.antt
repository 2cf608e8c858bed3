-- The part of the buffer that the files are named by is the two names.
use Rattle.std.proofs.Common.{rules}
use Rattle.igc_notice.proofs.Callers.{piece_fits, piece_counts}
use Rattle.igc_console.proofs.print_unmerged.Goals as goal

pub slice_bounds-names-end : goal.slice_bounds-names-end
slice_bounds-names-end g c = search (piece_fits, rules)

pub slice_bounds-print_refused-end : goal.slice_bounds-print_refused-end
slice_bounds-print_refused-end g c = search (piece_counts, rules)
