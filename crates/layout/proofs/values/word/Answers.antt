-- `layout::values::word` meets its contract: the bits from the number n on, the highest first. Assumes nothing.
use Prim.Native.Nat.{ℕ, ◌-◌, ◌^◌, ◌<◌}
use mathlib.Core.Path.{◌≡◌, refl, sym, ◌∙◌, ap}
use native.Mathlib.Omega.{arith}
use borrow.Author.Rules.{rules}
use lib.ListN.{get_or, drop}
use Rattle.rules.specs.Listed.{listed, unlisted}
use Rattle.rules_values.proofs.Presence.{horner, word_horner, bit_lt}
use Rattle.layout.proofs.Words.{horner_step, horner_drop_lt}
use Rattle.rules.specs.declared.Layout.{Layout}
use Rattle.layout.proofs.values.word.Goals as goal

low : (l : Layout) (n w : ℕ) → w ≡ horner l (drop n listed) → w < 2 ^ 15
unfolding listed
low l n w e = rw (← e) at (horner_drop_lt l listed n)

pub loop-n-init : goal.loop-n-init
unfolding listed horner
loop-n-init c = refl

pub overflow_mul-word : goal.overflow_mul-word
overflow_mul-word c = let h = low c.args.l c.loop-n.n c.loop-n.word c.loop-n.invariant in omega arith

pub overflow_add-word : goal.overflow_add-word
overflow_add-word c =
    let h = low c.args.l c.loop-n.n c.loop-n.word c.loop-n.invariant in
    let k = rw (← c.bit_of.ensures) at (bit_lt c.args.l (get_or listed (c.loop-n.n - 1) unlisted)) in
    omega arith

pub loop-n-preserved : goal.loop-n-preserved
unfolding listed
loop-n-preserved c =
    rw (c.bit_of.ensures, c.loop-n.invariant) (sym (horner_step c.args.l listed c.loop-n.n c.loop-n-test.true c.loop-n.auto.n))

pub returns : goal.returns
returns c =
    let k = c.loop-n in
    let zero : k.n ≡ 0 = search rules in
    let l = c.args.l in
    k.invariant ∙ ap (λ n. horner l (drop n listed)) zero ∙ sym (word_horner l listed)
