-- The part of the buffer that is written is the message.
use Rattle.std.proofs.Common.{rules}
use Rattle.igc_notice.proofs.Callers.{piece_fits, piece_counts}
use Rattle.igc_console.proofs.say_unread.Goals as goal

pub slice_bounds-out-end : goal.slice_bounds-out-end
slice_bounds-out-end g c = search (piece_fits, rules)

pub slice_bounds-complain-end : goal.slice_bounds-complain-end
slice_bounds-complain-end g c = search (piece_counts, rules)
