-- `byte_sweep::is_digits_from` meets its contract. Assumes nothing.
use Rattle.std.proofs.Common.{rules, arith, ◌≡◌, ◌-◌, length, take, drop}
use Rattle.std.proofs.lemmas.Grind.{common_steps}
use Rattle.rules.specs.Chars.{is_digit}
use Rattle.rules.specs.Listed.{is_digits}
use Rattle.byte_sweep.proofs.Laws.{folded_from}
use Rattle.byte_sweep.proofs.is_digits_from.Goals as goal

pub returns : goal.returns
unfolding is_digits
returns c =
    let s = c.args.text.now in
    let m = c.min.result in
    let t = take (length s - m) (drop m s) in
    let e : t ≡ drop c.args.from s = grind (arith, common_steps) in
    folded_from is_digit _ s t c.args.from e (search rules)
