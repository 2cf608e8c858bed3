-- `extra` meets its contract: each way out is a way through `extra_known`, with the layout's entries or with none. Assumes nothing.
use Rattle.std.proofs.lemmas.Result.{err_from_is_err_and}
use Rattle.rules.specs.Refusals.{result_told}
use mathlib.Core.Path.{refl, sym, ◌∙◌, ap}
use Rattle.rules.specs.Reads.{extra_reading_told}
use Rattle.rules.proofs.Links.{then_ok, then_err}
use Rattle.line_known.proofs.extra.Goals as goal

pub returns : goal.returns
unfolding extra_reading_told
returns c = then_ok _ _ _ _ _ c.timed.ensures c.in_ok-time.was refl

pub returns-in_err-time : goal.returns-in_err-time
unfolding extra_reading_told
returns-in_err-time c =
    let p = err_from_is_err_and c.from_residual.result c.from_residual.ensures.1 in
    rw (p.1, p.2) (then_err _ _ _ _ _ c.timed.ensures c.in_err-time.was refl)
