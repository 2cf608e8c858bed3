-- `byte_number::spelt` meets its contract: what is left to spell from here is the whole answer, and what is spelt leaves room for it. Assumes nothing.
use Rattle.std.proofs.Common.{arith, rules, ◌≡◌, ◌+◌, ◌-◌, length, sym, ◌∙◌}
use Rattle.rules.specs.Numbers.{spell, number_at}
use Rattle.byte_number.proofs.Laws.{digit_low, digit_high, spell_more, spell_other, grows, below_17, number_few}
use Rattle.byte_number.proofs.spelt.Goals as goal

pub returns-then-text-gt18 : goal.returns-then-text-gt18
unfolding number_at
returns-then-text-gt18 c = search rules

pub returns-then-not-is_digit : goal.returns-then-not-is_digit
returns-then-not-is_digit c =
    let l = c.loop-b in
    sym (l.invariant.0 ∙ spell_other (length c.args.text.now - l.b-index) _ _ _ (omega arith) c.loop-b-test.true (sym c.is_digit.ensures ∙ c.if-not-is_digit.true)) ∙ sym (number_few c.args.text.now (length c.args.text.now) c.if-text-gt18.false)

pub overflow_sub-b : goal.overflow_sub-b
overflow_sub-b c = digit_low _ (sym c.is_digit.ensures ∙ c.if-not-is_digit.false)

pub overflow_mul-v : goal.overflow_mul-v
overflow_mul-v c =
    let l = c.loop-b in
    omega (arith, below_17 l.b-index l.v (omega arith) l.invariant.1)

pub overflow_add-v : goal.overflow_add-v
overflow_add-v c =
    let l = c.loop-b in
    omega (arith, below_17 l.b-index l.v (omega arith) l.invariant.1, digit_high _ (sym c.is_digit.ensures ∙ c.if-not-is_digit.false))

pub loop-b-preserved : goal.loop-b-preserved
loop-b-preserved c =
    let l = c.loop-b in
    let n = length c.args.text.now in
    let d = sym c.is_digit.ensures ∙ c.if-not-is_digit.false in
    let hi = digit_high _ d in
    let e : n - (l.b-index + 1) ≡ n - l.b-index - 1 = omega arith in (
      rw (e, c.from.ensures) (l.invariant.0 ∙ spell_more (n - l.b-index) _ _ _ (omega arith) c.loop-b-test.true d),
      grows _ _ _ l.invariant.1 (omega arith),
    )

pub returns : goal.returns
unfolding spell
returns c =
    let l = c.loop-b in
    let z : length c.args.text.now - l.b-index ≡ 0 = omega arith in
    sym (rw z at l.invariant.0) ∙ sym (number_few c.args.text.now (length c.args.text.now) c.if-text-gt18.false)
