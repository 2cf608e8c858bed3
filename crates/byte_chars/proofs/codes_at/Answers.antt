-- `byte_chars::codes_at` meets its contract: what is left of the text decides as the whole text does. Assumes nothing.
use Rattle.std.proofs.Common.{arith, ◌≡◌, ◌<◌, ◌+◌, ◌-◌, ◌∙◌, sym, length, take, drop}
use Rattle.std.proofs.lemmas.Grind.{common_steps}
use Rattle.rules.specs.Choice.{leads}
use Rattle.rules.specs.Chars.{is_code, codes_at}
use Rattle.byte_chars.proofs.Laws.{leads_more, leads_other, leads_cut, leads_past}
use Rattle.byte_chars.proofs.codes_at.Goals as goal

pub returns-in_default : goal.returns-in_default
unfolding codes_at
returns-in_default c =
    let a = c.args in
    let h : length (drop a.at a.s.now) < a.n = grind (arith, common_steps) in
    leads_past is_code _ _ h

pub loop-b-init : goal.loop-b-init
unfolding codes_at
loop-b-init c =
    let a = c.args in
    let l = drop a.at a.s.now in
    let t : c.in-Some.text.now ≡ take a.n l = grind (arith, common_steps) in
    let z : a.n - 0 ≡ a.n = omega arith in
    rw (t, z) (leads_cut is_code a.n l)

pub returns-then-not-is_code : goal.returns-then-not-is_code
returns-then-not-is_code c =
    let h : length c.in-Some.text.now ≡ c.args.n = grind (arith, common_steps) in
    sym (c.loop-b.invariant ∙ leads_other is_code _ 0 c.loop-b.b-index _ (omega arith) c.loop-b-test.true (sym c.is_code.ensures ∙ c.if-not-is_code.true))

pub loop-b-preserved : goal.loop-b-preserved
loop-b-preserved c =
    let l = c.loop-b in
    let n = c.args.n in
    let h : length c.in-Some.text.now ≡ n = grind (arith, common_steps) in
    let e : n - (l.b-index + 1) ≡ n - l.b-index - 1 = omega arith in
    rw e (l.invariant ∙ leads_more is_code _ 0 l.b-index (n - l.b-index) (omega arith) c.loop-b-test.true (sym c.is_code.ensures ∙ c.if-not-is_code.false))

pub returns : goal.returns
unfolding leads
returns c =
    let h : length c.in-Some.text.now ≡ c.args.n = grind (arith, common_steps) in
    let z : c.args.n - c.loop-b.b-index ≡ 0 = omega arith in
    sym (rw z at c.loop-b.invariant)
