-- The part of the block that is written is the sheet.
use Rattle.std.proofs.Common.{rules}
use Rattle.text_stretch.proofs.Callers.{sheet_fits, sheet_counts, sheet_less}
use Rattle.igc_errands.proofs.tracks.print_sheets.Goals as goal

pub slice_bounds-block-end : goal.slice_bounds-block-end
slice_bounds-block-end g c = search (sheet_fits, rules)

pub slice_bounds-write-end : goal.slice_bounds-write-end
slice_bounds-write-end g c = search (sheet_counts, rules)

pub loop-left-smaller : goal.loop-left-smaller
loop-left-smaller g c = search (sheet_less, rules)
