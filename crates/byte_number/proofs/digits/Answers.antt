-- `byte_number::digits` meets its contract: what is cut out at the place is spelt, or the text ends before. Assumes nothing.
use Rattle.std.proofs.Common.{arith, rules, length, drop, ◌∙◌, ◌<◌, ◌≡◌, take}
use Rattle.std.proofs.lemmas.Grind.{common_steps}
use Rattle.rules.specs.Numbers.{number_at}
use Rattle.byte_number.proofs.Laws.{number_cut, number_short, number_few}
use Rattle.byte_number.proofs.digits.Goals as goal

pub returns-then-n-gt18 : goal.returns-then-n-gt18
unfolding number_at
returns-then-n-gt18 c = search rules

pub returns-in_err-get : goal.returns-in_err-get
returns-in_err-get c =
    let a = c.args in
    let g : length (drop a.at a.s.now) < a.n = grind (arith, common_steps, c.in_err-get.ensures.lookup, c.min.ensures) in
    rw c.from_residual.ensures (number_short _ _ _ c.if-n-gt18.false g)

pub returns : goal.returns
returns c =
    let a = c.args in
    let t = c.in_ok-get.field-0.now in
    let h = c.in_ok-get.ensures.lookup.0 in
    let m = c.min.ensures in
    let g : length t ≡ a.n = omega (arith, h.3) in
    let e : t ≡ take a.n (drop a.at a.s.now) = grind (arith, common_steps, h.2, m, c.if-n-gt18.false) in
    c.spelt.ensures ∙ number_few t (length t) (omega arith) ∙ number_cut _ _ _ _ c.if-n-gt18.false e g
