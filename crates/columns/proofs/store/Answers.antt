-- `columns::store` meets its contract. Assumes nothing.
use native.Mathlib.Omega.{arith}
use borrow.Author.Rules.{rules}
use Rattle.columns_row.proofs.Rows.{put_length}
use Rattle.columns.proofs.Telling.{store_short, store_small, store_spots, store_ready, store_fits}
use Rattle.columns.proofs.store.Goals as goal

pub overflow_mul-n : goal.overflow_mul-n
overflow_mul-n c =
    let h = store_small c.args.file.now c.args.codes.now c.args.list.now c.args.flight c.args.family _ c.count_of-n.ensures.0 _ c.requires c.count_of-n.ensures.1 in
    record { fits = omega (arith, h) }

pub returns-then-list-n : goal.returns-then-list-n
returns-then-list-n c =
    store_short c.args.file.now c.args.codes.now c.args.list.now c.args.flight c.args.family _ c.count_of-n.ensures.0 _ (omega arith) c.unplaced.ensures

pub slice_bounds-fill-start : goal.slice_bounds-fill-start
slice_bounds-fill-start c =
    let h = store_spots c.args.file.now c.args.codes.now c.args.list.now c.args.flight c.args.family _ c.count_of-n.ensures.0 _ c.requires in
    omega (arith, h, c.requires.few)

pub slice_bounds-fill-end : goal.slice_bounds-fill-end
slice_bounds-fill-end c =
    let h = store_spots c.args.file.now c.args.codes.now c.args.list.now c.args.flight c.args.family _ c.count_of-n.ensures.0 _ c.requires in
    omega (arith, h, c.requires.few)

pub fill-requires : goal.fill-requires
fill-requires c =
    store_ready c.args.file.now c.args.codes.now c.args.list.now c.args.flight c.args.family _ c.count_of-n.ensures.0 _ c.requires _ c.line_letter.ensures (omega arith)
    _ c.sizes_of-sizes.ensures

pub returns : goal.returns
returns c =
    store_fits c.args.file.now c.args.codes.now c.args.list.now c.args.flight c.args.family _ c.count_of-n.ensures.0 _ c.requires _ c.line_letter.ensures (omega arith)
    _ c.fill.ensures

pub overflow_mul-end : goal.overflow_mul-end
overflow_mul-end c = omega arith

pub slice_bounds-fill-count : goal.slice_bounds-fill-count
slice_bounds-fill-count c = omega arith

pub shape_of-list : goal.shape_of-list
shape_of-list c = search (put_length, rules)
