-- `byte_digits::digits` meets its contract: what is cut out at the place is spelt, or the text ends before. Assumes nothing.
use Rattle.std.proofs.Common.{arith, length, drop, take, ◌∙◌, ◌+◌, ◌-◌, ◌<◌, ◌≡◌}
use Rattle.std.proofs.lemmas.Grind.{common_steps}
use Rattle.byte_number.proofs.Laws.{number_cut, number_short, number_few}
use Rattle.byte_digits.proofs.digits.Goals as goal

pub returns-then-saturating_sub : goal.returns-then-saturating_sub
returns-then-saturating_sub g c =
    let a = c.args in
    let h : length (drop a.at a.s.now) < g.row.N = grind (arith, common_steps) in
    number_short _ _ g.row.N (omega arith) h

pub returns : goal.returns
returns g c =
    let a = c.args in
    let n = g.row.N in
    let t = take (a.at + n - a.at) (drop a.at a.s.now) in
    let e : t ≡ take n (drop a.at a.s.now) = grind (arith, common_steps) in
    let h : length t ≡ n = grind (arith, common_steps) in
    c.spelt.ensures ∙ number_few t (length t) (omega arith) ∙ number_cut _ _ _ _ (omega arith) e h
