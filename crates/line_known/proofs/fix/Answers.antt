-- `fix` meets its contract: each way out is a way through `fix_known`, with the layout's entries or with none. Assumes nothing.
use mathlib.Core.Path.{refl, ap}
use Rattle.std.proofs.lemmas.Result.{err_from_is_err_and}
use Rattle.rules.specs.Refusals.{says, and_then, result_told}
use Rattle.rules.specs.Reads.{fix_reading_told}
use Rattle.rules.proofs.Links.{then_ok, then_err}
use Rattle.line_known.specs.Known.{fix_known}
use Rattle.line_known.proofs.Laws.{made_by}
use Rattle.line_known.proofs.fix.Goals as goal

pub returns : goal.returns
unfolding fix_known fix_reading_told
returns c =
    let made = made_by _ _ _ _ _ c.fix_of.ensures c.finer_of.ensures in
    rw made (ap (λ s. and_then s λ v. says (record { value = v; entries = c.args.layout })) (then_ok _ _ _ _ _ c.fields.ensures c.in_ok-f.was refl))

pub returns-in_err-f : goal.returns-in_err-f
unfolding fix_known fix_reading_told
returns-in_err-f c =
    let p = err_from_is_err_and c.from_residual.result c.from_residual.ensures.1 in
    rw (p.1, p.2) (ap (λ s. and_then s λ v. says (record { value = v; entries = c.args.layout })) (then_err _ _ _ _ _ c.fields.ensures c.in_err-f.was refl))
