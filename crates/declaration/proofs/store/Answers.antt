-- `declaration::store` meets its contract. Assumes nothing.
use Prim.Native.Nat.{◌*◌, ◌<◌}
use native.Mathlib.Omega.{arith}
use borrow.Author.Rules.{rules}
use lib.ListN.{length}
use Rattle.declaration.proofs.Telling.{found_lies, found_none, store_none, store_short, store_fits}
use Rattle.declaration.proofs.store.Goals as goal

pub returns-in_default : goal.returns-in_default
returns-in_default c =
    let a = c.args in
    store_none a.list.now _ (found_none a.file.now _ c.find.ensures c.in_default.is) _ c.no_head.ensures

pub slice_bounds-declared_at-count : goal.slice_bounds-declared_at-count
slice_bounds-declared_at-count c =
    let l = found_lies c.args.file.now _ c.find.ensures _ c.in-Some.is in
    omega (arith, l.ordered, l.inside)

pub slice_bounds-declared_at-start : goal.slice_bounds-declared_at-start
slice_bounds-declared_at-start c =
    let l = found_lies c.args.file.now _ c.find.ensures _ c.in-Some.is in
    omega (arith, l.ordered, l.inside)

pub slice_bounds-declared_at-end : goal.slice_bounds-declared_at-end
slice_bounds-declared_at-end c =
    let l = found_lies c.args.file.now _ c.find.ensures _ c.in-Some.is in
    omega (arith, l.ordered, l.inside)

pub declared_at-d-requires : goal.declared_at-d-requires
declared_at-d-requires c =
    let l = found_lies c.args.file.now _ c.find.ensures _ c.in-Some.is in
    let small : length c.args.file.now * 1 < 9223372036854775808 = c.well_formed.0.1 in
    (omega (arith, small, l.few, l.ordered, l.inside), omega (arith, small, l.ordered, l.inside))

pub returns-then-list-n : goal.returns-then-list-n
returns-then-list-n c =
    let a = c.args in
    let l = found_lies a.file.now _ c.find.ensures _ c.in-Some.is in
    store_short a.list.now a.file.now _ l _ c.declared_at-d.ensures _ (omega arith) c.unplaced.ensures

pub overflow_add-end : goal.overflow_add-end
overflow_add-end c =
    let l = found_lies c.args.file.now _ c.find.ensures _ c.in-Some.is in
    omega (arith, l.inside)

pub returns : goal.returns
returns c =
    let a = c.args in
    let l = found_lies a.file.now _ c.find.ensures _ c.in-Some.is in
    store_fits a.list.now a.file.now _ l _ c.declared_at-d.ensures (omega arith) _ c.fill.ensures

pub fill-requires : goal.fill-requires
fill-requires c = omega arith
