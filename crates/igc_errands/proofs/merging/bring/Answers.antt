-- `igc_errands::merging::bring` meets its contract: the part of the output that is written to the new file is the merged file. Assumes nothing.
use Rattle.notes_merge.proofs.Whole.{whole_fits, whole_counts}
use Rattle.igc_errands.proofs.merging.bring.Goals as goal

pub slice_bounds-keep-end : goal.slice_bounds-keep-end
slice_bounds-keep-end g c = whole_fits _ _ _ _ _ _ c.merge.ensures c.in-Whole.is

pub slice_bounds-keep-end-in-Whole : goal.slice_bounds-keep-end-in-Whole
slice_bounds-keep-end-in-Whole g c = whole_counts _ _ _ _ _ _ c.merge.ensures c.in-Whole.is
