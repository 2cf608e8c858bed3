-- `check_places::mark_columns` meets its contract: what is left to put from the column in turn on gives the whole. Assumes nothing.
use Rattle.std.proofs.Common.{◌+◌, ◌*◌, get_or, refl, ◌∙◌, arith, rules}
use Rattle.check_places.specs.Places.{column_marks, end_marks}
use Rattle.check_places.proofs.Laws.{long_sets, columns_step, columns_end}
use Rattle.check_places.proofs.mark_columns.Goals as goal

pub loop-k-preserved : goal.loop-k-preserved
loop-k-preserved c =
    let l = c.loop-k in
    let a = c.args in (
      long_sets l.list _ (column_marks a.m c.more_of-more.result (get_or a.pattern.now (3 * l.k + 2) 0)) l.at _ c.mark_column.ensures l.invariant.0,
      omega (arith, l.invariant.1, c.more_of-more.ensures.1),
      columns_step _ _ _ _ _ l.k l.invariant.2 (search rules) _ c.more_of-more.ensures.0 _ c.mark_column.ensures,
    )

pub mark_column-requires : goal.mark_column-requires
mark_column-requires c =
    let l = c.loop-k in
    let pre = c.requires in
    (omega (arith, l.invariant.1, pre.0, pre.1, c.loop-k-test.true), c.more_of-more.ensures.1)

pub overflow_add-at : goal.overflow_add-at
overflow_add-at c = omega (arith, c.more_of-more.ensures.1)

pub overflow_add-at-in-loop-k : goal.overflow_add-at-in-loop-k
overflow_add-at-in-loop-k c =
    let l = c.loop-k in
    let pre = c.requires in
    omega (arith, l.invariant.1, pre.0, pre.1, c.loop-k-test.true, c.more_of-more.ensures.1)

pub shape_of-list : goal.shape_of-list
shape_of-list c =
    let l = c.loop-k in
    long_sets l.list _ (end_marks c.args.m) l.at _ c.mark_end.ensures l.invariant.0

pub returns : goal.returns
returns c =
    let l = c.loop-k in
    c.mark_end.ensures ∙ columns_end _ _ _ _ _ l.k l.invariant.2 (search rules)

pub loop-k-init : goal.loop-k-init
loop-k-init c = (refl, omega arith, refl)
