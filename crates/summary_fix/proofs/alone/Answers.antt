-- `summary_fix::alone` meets its contract. Assumes nothing.
use Rattle.summary_fix.proofs.Laws.{alone_is}
use Rattle.summary_fix.proofs.alone.Goals as goal

pub returns : goal.returns
returns c =
    alone_is
    c.args.r _ _ _ _ _ _ _ _ _ _ _
    c.figure_of.ensures
    c.plain_time.ensures
    c.figure_of-2.ensures
    c.height_of.ensures
    c.span_if.ensures
    c.plain_position.ensures
    c.signed.ensures
    c.span_if-2.ensures
    c.plain_position-2.ensures
    c.signed-2.ensures
    c.span_if-3.ensures
