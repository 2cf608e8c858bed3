-- `byte_sweep::is_mild_from` meets its contract. Assumes nothing.
use Rattle.std.proofs.Common.{rules, arith, ◌≡◌, ◌-◌, length, take, drop}
use Rattle.std.proofs.lemmas.Grind.{common_steps}
use Rattle.byte_sweep.specs.Plain.{is_mild}
use Rattle.byte_sweep.proofs.Laws.{folded_from}
use Rattle.byte_sweep.proofs.is_mild_from.Goals as goal

pub returns : goal.returns
returns c =
    let s = c.args.text.now in
    let m = c.min.result in
    let t = take (length s - m) (drop m s) in
    let e : t ≡ drop c.args.from s = grind (arith, common_steps) in
    folded_from is_mild _ s t c.args.from e (search rules)
